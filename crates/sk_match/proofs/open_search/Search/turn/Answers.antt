use Rattle.std.proofs.Common.{None, inl, subst}
use Rattle.sk_match.specs.Searches.{Looks}
use Rattle.sk_match.proofs.StrideLemmas.{looked_at_head, looked_far, looked_fewer, looked_early, looked_enough}
use Rattle.sk_match.proofs.open_search.Search.turn.Goals as goal

pub returns-in_default-clause-enough : goal.returns-in_default-clause-enough
returns-in_default-clause-enough g c done paging query stands =
    let i = c.args.index.now in
    let looks : Looks i None c.args.self.now c.look.new.self = subst (λ o. Looks i o c.args.self.now c.look.new.self) c.in_default.is c.in_ok-id.ensures.looks in
    looked_enough i c.args.self.now looks.0 paging query stands

pub returns-clause-stands : goal.returns-clause-stands
returns-clause-stands g c paging query stands =
    let i = c.args.index.now in
    let looks = looked_at_head i c.in_ok-id.field-0 c.in-Some.id c.args.self.now c.look.new.self c.in-Some.is c.in_ok-id.ensures.looks in
    looked_far i c.args.self.now c.look.new.self c.in-Some.id looks c.pass.new.self (inl c.pass.ensures.passes) paging query stands

pub returns-clause-fewer : goal.returns-clause-fewer
returns-clause-fewer g c more =
    let i = c.args.index.now in
    let looks = looked_at_head i c.in_ok-id.field-0 c.in-Some.id c.args.self.now c.look.new.self c.in-Some.is c.in_ok-id.ensures.looks in
    looked_fewer i c.args.self.now c.look.new.self c.in-Some.id looks c.pass.new.self (inl c.pass.ensures.passes)

pub returns-clause-early : goal.returns-clause-early
returns-clause-early g c more paging query stands plain =
    let i = c.args.index.now in
    let looks = looked_at_head i c.in_ok-id.field-0 c.in-Some.id c.args.self.now c.look.new.self c.in-Some.is c.in_ok-id.ensures.looks in
    looked_early i c.args.self.now c.look.new.self c.in-Some.id looks c.pass.new.self c.pass.ensures.passes paging query stands plain
