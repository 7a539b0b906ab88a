use Rattle.std.proofs.Common.{◌∷◌, sym, ap, ◌∙◌, arith}
use Rattle.sk_faults.proofs.FaultLemmas.{next_dropped, reached_fault, reached_next, depth_step}
use Rattle.sk_faults.proofs.faults.fault_in.Goals as goal

pub returns-in-Some : goal.returns-in-Some
returns-in-Some c =
    let cut = next_dropped c.args.tokens.now c.tokens.i c.index-tokens-i.result c.tokens-test.true c.index-tokens-i.is ∙ ap (λ w. c.index-tokens-i.result ∷ w) (sym c.behind-behind.ensures) in
    reached_fault c.args.schema.now c.args.tokens.now c.first_unclosed-unclosed.result c.tokens.i c.tokens.before c.index-tokens-i.result c.behind-behind.result.now c.is_at.result
    c.fault_at-fault.result c.tokens.invariant cut c.is_at.ensures c.fault_at-fault.ensures.value c.in-Some.kind c.in-Some.is

pub tokens-preserved : goal.tokens-preserved
tokens-preserved c =
    let cut = next_dropped c.args.tokens.now c.tokens.i c.index-tokens-i.result c.tokens-test.true c.index-tokens-i.is ∙ ap (λ w. c.index-tokens-i.result ∷ w) (sym c.behind-behind.ensures) in
    let few = c.fault_at-fault.ensures.few c.in_default.is c.tokens.invariant.few in
    let leaves = c.with-before.ensures.leaves in
    let depth = c.with-before.ensures.depth in
    let deep = depth_step c.tokens.before.depth c.index-tokens-i.result.kind in
    let before = c.tokens.invariant.deep in
    reached_next c.args.schema.now c.args.tokens.now c.first_unclosed-unclosed.result c.tokens.i c.tokens.before c.index-tokens-i.result c.behind-behind.result.now c.is_at.result
    c.fault_at-fault.result c.tokens.invariant cut c.is_at.ensures c.fault_at-fault.ensures.value c.with-before.result c.in_default.is (c.fault_at-fault.ensures.closed c.in_default.is)
    c.behind-behind.ensures c.with-before.ensures.kept (omega (arith, few, leaves)) (omega (arith, depth, deep, before))
