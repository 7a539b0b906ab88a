use Rattle.std.proofs.Common.{◌≡◌, ◌≤◌, ℕ, List, length, Some, false, refl, subst}
use Rattle.sk_query.specs.Trees.{query_view}
use Rattle.sk_model.specs.Sharp.{flat_lists}
use Rattle.sk_report.specs.Flights.{MayBeOpen, Begins}
use Rattle.sk_match.specs.Searches.{spent_by}
use Rattle.sk_flight.specs.Kept.{Flies, open_as}
use Rattle.sk_flight.proofs.FlightLemmas.{begins, told_whole, may_read}
use Rattle.sk_flight.proofs.flight.Flight.open.Goals as goal

pub returns-clause-flight : goal.returns-clause-flight
returns-clause-flight g c =
    let search = c.in-Ok.search in
    let i = c.as_ref.result.now in
    let query = query_view c.args.query in
    subst (λ i. Flies search i c.args.paging query 0 false) c.as_ref.ensures
    (begins search i c.args.paging query c.in-Ok.ensures.stands c.in-Ok.ensures.first.0 c.in-Ok.ensures.first.1 (told_whole search c.spent.result c.spent.ensures.value c.if-spent.false)
    (may_read search c.spent.result c.spent.ensures.value c.if-spent.false i c.args.paging query 0 false c.spent.ensures.within c.spent.ensures.paced c.in-Ok.ensures.stands (λ _. c.in-Ok.ensures.first.1)))

pub returns-clause-begins : goal.returns-clause-begins
returns-clause-begins g c = record {
  paging = refl;
  query = refl;
  documents = refl;
  turns = refl;
  going = refl;
  one_each =
      subst (λ i. (lists : List (List ℕ)) → flat_lists (query_view c.args.query) i.live.documents ≡ Some lists → spent_by c.in-Ok.search ≤ length lists) c.as_ref.ensures
      c.in-Ok.ensures.one_each;
  may = (returns-clause-flight g c).may;
}
