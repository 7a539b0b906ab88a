use Rattle.std.proofs.Common.{◌≡◌, true, sym, subst}
use Rattle.sk_query.specs.Trees.{query_view}
use Rattle.sk_report.specs.Reports.{ReportsFor}
use Rattle.sk_match.specs.Searches.{Stands, IsOn, is_done}
use Rattle.sk_flight.proofs.FlightLemmas.{is_on}
use Rattle.sk_flight.proofs.flight.Flight.finish.Goals as goal

pub finish-requires-clause-on : goal.finish-requires-clause-on
finish-requires-clause-on g c =
    let flight = c.args.self in
    subst (IsOn flight.search) (sym c.as_ref.ensures) (is_on flight.search flight.revision.value flight.paging (query_view flight.query) flight.turns flight.is_done c.requires.flight)

pub finish-requires-clause-done : goal.finish-requires-clause-done
finish-requires-clause-done g c = subst (λ i. is_done i c.args.self.search ≡ true) (sym c.as_ref.ensures) (c.requires.flight.ended c.requires.done)

pub returns-clause-report : goal.returns-clause-report
returns-clause-report g c =
    let flight = c.args.self in
    let query = query_view flight.query in
    subst (λ i. ReportsFor query flight.paging i.live.documents c.in_ok-report.report) c.as_ref.ensures
    (c.in_ok-report.ensures.report flight.paging query (subst (λ i. Stands flight.search i flight.paging query) (sym c.as_ref.ensures) c.requires.flight.stands))
