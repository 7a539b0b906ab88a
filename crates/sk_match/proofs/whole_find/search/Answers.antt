use Rattle.std.proofs.Common.{arith}
use Rattle.std.proofs.lemmas.Result.{IfOk-weaker}
use Rattle.sk_query.specs.Trees.{query_view}
use Rattle.sk_match.proofs.whole_find.search.Goals as goal

pub stride-requires : goal.stride-requires
stride-requires g c = record { on = (c.args.paging.now, query_view c.args.query.now, c.turns.invariant.0) }

pub turns-preserved : goal.turns-preserved
turns-preserved g c = (c.in-Ok-More.ensures.stands c.args.paging.now (query_view c.args.query.now) c.turns.invariant.0, omega (arith, c.turns.invariant.1, c.in-Ok-More.ensures.cost))

pub finish-requires-clause-on : goal.finish-requires-clause-on
finish-requires-clause-on g c = (c.args.paging.now, query_view c.args.query.now, c.in-Ok-Done.ensures.stands c.args.paging.now (query_view c.args.query.now) c.turns.invariant.0)

pub returns-in-Ok-Done-clause-report : goal.returns-in-Ok-Done-clause-report
returns-in-Ok-Done-clause-report g c =
    IfOk-weaker c.finish.result _ _
    (λ report tells. tells c.args.paging.now (query_view c.args.query.now) (c.in-Ok-Done.ensures.stands c.args.paging.now (query_view c.args.query.now) c.turns.invariant.0)) c.finish.ensures.report

pub open-requires-clause-fits : goal.open-requires-clause-fits
open-requires-clause-fits g c = c.requires.fits

pub open-requires-clause-paging : goal.open-requires-clause-paging
open-requires-clause-paging g c = c.requires.paging

pub returns-in_err-search-clause-later : goal.returns-in_err-search-clause-later
returns-in_err-search-clause-later g c = c.open.ensures.later

pub turns-init : goal.turns-init
turns-init g c =
    (c.in_ok-search.ensures.stands, c.in_ok-search.ensures.cost)

pub returns-in-Ok-Done-clause-cost : goal.returns-in-Ok-Done-clause-cost
returns-in-Ok-Done-clause-cost g c =
    IfOk-weaker c.finish.result _ _ (λ report e. omega (arith, e, c.in-Ok-Done.ensures.cost, c.turns.invariant.1)) c.finish.ensures.cost

pub returns-in-Ok-Done-clause-later : goal.returns-in-Ok-Done-clause-later
returns-in-Ok-Done-clause-later g c =
    omega (arith, c.finish.ensures.later, c.stride.ensures.later, c.turns.invariant.1)

pub returns-in-Err-clause-later : goal.returns-in-Err-clause-later
returns-in-Err-clause-later g c = omega (arith, c.stride.ensures.later, c.turns.invariant.1)
