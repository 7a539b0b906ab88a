use Rattle.sk_match.proofs.StrideLemmas.{looked_at_head, looked_far, looked_fewer}
use Rattle.sk_match.proofs.open_search.Search.stride.Goals as goal

pub returns-clause-stands : goal.returns-clause-stands
returns-clause-stands g c paging query stands =
    let i = c.args.index.now in
    let looks = looked_at_head i c.in_ok-id.field-0 c.in-Some.id c.args.self.now c.look.new.self c.in-Some.is c.in_ok-id.ensures.looks in
    looked_far i c.args.self.now c.look.new.self c.in-Some.id looks c.pass_far.new.self c.pass_far.ensures.passes paging query stands

pub returns-clause-fewer : goal.returns-clause-fewer
returns-clause-fewer g c more =
    let i = c.args.index.now in
    let looks = looked_at_head i c.in_ok-id.field-0 c.in-Some.id c.args.self.now c.look.new.self c.in-Some.is c.in_ok-id.ensures.looks in
    looked_fewer i c.args.self.now c.look.new.self c.in-Some.id looks c.pass_far.new.self c.pass_far.ensures.passes
