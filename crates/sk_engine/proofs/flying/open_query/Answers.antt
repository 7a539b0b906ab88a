use Rattle.std.proofs.Common.{◌≡◌, inl, inr, is_some, unwrap_or, refl, ap, sym, subst, ◌∙◌, true≢false, arith}
use Rattle.sk_query.specs.Trees.{query_view}
use Rattle.sk_report.specs.Flights.{owed}
use Rattle.sk_flight.specs.Flying.{Flying}
use Rattle.sk_flight.specs.Told.{Opens}
use Rattle.sk_engine.specs.Sessions.{held_by}
use Rattle.sk_engine.proofs.FlightLaws.{opened_spent, flown}
use Rattle.sk_engine.proofs.flying.open_query.Goals as goal

pub unreachable-requires : goal.unreachable-requires
unreachable-requires g c =
    let it = opened_spent c.args.paging (query_view c.args.query) c.args.flights.now c.open.new.self c.in-Number.number c.in_ok-number.field-0 c.in-Number.is c.in_ok-number.ensures.opens c.opened.ensures.fresh c.spent.result c.spent.ensures.value in
    true≢false (ap is_some (sym it.1 ∙ c.in-None.is))

pub returns-in-Some-clause-paid : goal.returns-in-Some-clause-paid
returns-in-Some-clause-paid g c =
    let it = opened_spent c.args.paging (query_view c.args.query) c.args.flights.now c.open.new.self c.in-Number.number c.in_ok-number.field-0 c.in-Number.is c.in_ok-number.ensures.opens c.opened.ensures.fresh c.spent.result c.spent.ensures.value in
    let same = ap (λ o. unwrap_or o 0) (sym it.1 ∙ c.in-Some.is) in
    let owes = it.2 in
    omega (arith, same, owes)

pub returns-in-Some-clause-cost : goal.returns-in-Some-clause-cost
returns-in-Some-clause-cost g c =
    let it = opened_spent c.args.paging (query_view c.args.query) c.args.flights.now c.open.new.self c.in-Number.number c.in_ok-number.field-0 c.in-Number.is c.in_ok-number.ensures.opens c.opened.ensures.fresh c.spent.result c.spent.ensures.value in
    let same = ap (λ o. unwrap_or o 0) (sym it.1 ∙ c.in-Some.is) in
    let owes = it.2 in
    let cost = c.in_ok-number.ensures.cost in
    omega (arith, same, owes, cost)

pub returns-in-Some-clause-opens : goal.returns-in-Some-clause-opens
returns-in-Some-clause-opens g c =
    let opens = subst (Opens c.args.paging (query_view c.args.query) c.args.flights.now c.open.new.self) c.in-Number.is c.in_ok-number.ensures.opens in
    inr (c.in-Number.number, c.in-Some.reads, c.open.new.self.flights, opens.1, refl, flown c.args.flights.now c.open.new.self opens.0)

pub returns-in-Full-clause-opens : goal.returns-in-Full-clause-opens
returns-in-Full-clause-opens g c =
    let opens = subst (Opens c.args.paging (query_view c.args.query) c.args.flights.now c.open.new.self) c.in-Full.is c.in_ok-number.ensures.opens in
    inl (opens.0, refl, ap held_by opens.1)

pub returns-in-Full-clause-paid : goal.returns-in-Full-clause-paid
returns-in-Full-clause-paid g c =
    let opens = subst (Opens c.args.paging (query_view c.args.query) c.args.flights.now c.open.new.self) c.in-Full.is c.in_ok-number.ensures.opens in
    let same = ap (λ (f : Flying). owed f.flights) opens.1 in
    omega (arith, same)

pub returns-in-Full-clause-cost : goal.returns-in-Full-clause-cost
returns-in-Full-clause-cost g c =
    let opens = subst (Opens c.args.paging (query_view c.args.query) c.args.flights.now c.open.new.self) c.in-Full.is c.in_ok-number.ensures.opens in
    let same = ap (λ (f : Flying). owed f.flights) opens.1 in
    let cost = c.in_ok-number.ensures.cost in
    omega (arith, same, cost)
