-- The numbers of the range above the edge, or in reverse those below it.
use Rattle.std.proofs.Common.{rules, ◌≡◌, ◌<◌, ◌^◌, Option, None, Some, IfSome, true, false, sym, subst, arith}
use Rattle.sk_values.specs.declared.span.Span.{Span}
use Rattle.sk_values.specs.Behind.{greatest_in, AreBehind}
use Rattle.sk_values.proofs.SkipLaws.{above_edge, below_edge}
use Rattle.sk_values.proofs.edge.Edge.behind.Goals as goal

pub returns-in_ok-checked_sub : goal.returns-in_ok-checked_sub
returns-in_ok-checked_sub c =
    let small : c.args.self.now.number < 2 ^ 64 = search rules in
    subst (λ b. IfSome c.new.result (λ s. AreBehind c.args.self.now.number b c.args.bounds.now.lo c.args.bounds.now.hi s)) (sym c.if-self.true) (by small c.new.result c.new.ensures)
  where
    by : c.args.self.now.number < 2 ^ 64 → (o : Option Span) → IfSome o (λ s. (s.least ≡ c.in_ok-least.least) × (greatest_in s ≡ c.min.result)) → IfSome o (λ s. AreBehind c.args.self.now.number true c.args.bounds.now.lo c.args.bounds.now.hi s)
    by small None is = tt
    by small (Some s) is =
        below_edge c.args.bounds.now.lo c.args.bounds.now.hi c.in_ok-least.least c.in_ok-least.greatest c.in_ok-least.ensures.0 c.in_ok-least.ensures.1 c.args.self.now.number s
        (omega (arith, is.0)) (omega (arith, is.1, c.min.ensures)) (omega (arith, is.1, c.min.ensures, c.min.type_inv)) (omega (arith, is.1, c.min.ensures, c.in_ok-checked_sub.ensures)) small

pub returns-in_ok-checked_add : goal.returns-in_ok-checked_add
returns-in_ok-checked_add c =
    let fits : c.in_ok-least.greatest < 2 ^ 64 = search rules in
    subst (λ b. IfSome c.new-else-self.result (λ s. AreBehind c.args.self.now.number b c.args.bounds.now.lo c.args.bounds.now.hi s)) (sym c.if-self.false) (by fits c.new-else-self.result c.new-else-self.ensures)
  where
    by : c.in_ok-least.greatest < 2 ^ 64 → (o : Option Span) → IfSome o (λ s. (s.least ≡ c.max.result) × (greatest_in s ≡ c.in_ok-least.greatest)) → IfSome o (λ s. AreBehind c.args.self.now.number false c.args.bounds.now.lo c.args.bounds.now.hi s)
    by fits None is = tt
    by fits (Some s) is =
        above_edge c.args.bounds.now.lo c.args.bounds.now.hi c.in_ok-least.least c.in_ok-least.greatest c.in_ok-least.ensures.0 c.in_ok-least.ensures.1 c.args.self.now.number s
        (omega (arith, is.0, c.max.ensures)) (omega (arith, is.1)) (omega (arith, is.1, fits)) (omega (arith, is.0, c.max.ensures, c.in_ok-checked_add.ensures))
