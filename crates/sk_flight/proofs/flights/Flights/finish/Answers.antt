use Rattle.std.proofs.Common.{rules, ◌≡◌, ◌≤◌, ◌+◌, true, false, refl, sym, ap, subst, ◌∙◌, arith}
use Rattle.sk_report.specs.Flights.{at, owed}
use Rattle.sk_match.specs.Searches.{spent_by}
use Rattle.sk_flight.specs.Kept.{AreFlights, flights_in}
use Rattle.sk_flight.specs.Flying.{Flying}
use Rattle.sk_flight.proofs.EntryLemmas.{kept_gone, found_is}
use Rattle.sk_flight.proofs.OpenLemmas.{gone_owed, closed_as, not_open, is_open, not_done, none_found, without_is, err_anyway}
use Rattle.sk_flight.proofs.flights.Flights.finish.Goals as goal

pub returns-in_default-clause-ends : goal.returns-in_default-clause-ends
returns-in_default-clause-ends g c =
    (rw (← c.self.view_is) (not_open c.args.number c.self.inside.opened c.self.inside.flights.entries (none_found _ c.in_default.ensures)), refl)

pub returns-then-not-is_done-clause-ends : goal.returns-then-not-is_done-clause-ends
returns-then-not-is_done-clause-ends g c =
    let not : c.in-Some.is_done ≡ false = search rules in
    (rw (← c.self.view_is) (not_done c.args.number c.self.inside.opened c.self.inside.flights.entries c.in-Some.is_done c.in-Some.ensures not), refl)

pub finish-requires-clause-flight : goal.finish-requires-clause-flight
finish-requires-clause-flight g c =
    found_is (at c.args.number) c.self.inside.flights.entries c.in-Some-remove.flight c.self.invariant.flights (sym c.remove.ensures.value ∙ c.in-Some-remove.is)

pub invariant_of-self-in_err-paging : goal.invariant_of-self-in_err-paging
invariant_of-self-in_err-paging g c = subst (AreFlights c.self.inside.opened) (sym c.remove.ensures.entries) (kept_gone c.self.inside.opened (at c.args.number) c.self.inside.flights.entries c.self.invariant)

pub returns-in_err-paging-clause-gone : goal.returns-in_err-paging-clause-gone
returns-in_err-paging-clause-gone g c =
    rw (← c.self.view_is)
    (err_anyway c.from_residual.result (ap (λ xs. flights_in xs c.self.inside.opened) c.remove.ensures.entries ∙ without_is c.args.number c.self.inside.opened c.self.inside.flights.entries))

pub returns-in_err-paging-clause-succeeds : goal.returns-in_err-paging-clause-succeeds
returns-in_err-paging-clause-succeeds g c =
    rw (← c.self.view_is)
    (λ none. absurd (is_open c.args.number c.self.inside.opened c.self.inside.flights.entries c.in-Some-remove.flight (sym c.remove.ensures.value ∙ c.in-Some-remove.is) none))

pub invariant_of-self-2 : goal.invariant_of-self-2
invariant_of-self-2 g c = subst (AreFlights c.self.inside.opened) (sym c.remove.ensures.entries) (kept_gone c.self.inside.opened (at c.args.number) c.self.inside.flights.entries c.self.invariant)

pub returns-clause-ends : goal.returns-clause-ends
returns-clause-ends g c =
    let paid = c.in_ok-paging.ensures.cost in
    let later = c.in_ok-paging.ensures.later in
    let ended : c.in-Some-remove.flight.is_done ≡ true = search rules in
    rw (← c.self.view_is)
    (closed_as c.args.number c.self.inside.opened c.self.inside.flights.entries c.remove.new.self.entries c.in-Some-remove.flight c.in_ok-paging.paging c.in_ok-paging.report
    (sym c.remove.ensures.value ∙ c.in-Some-remove.is) ended c.in_ok-paging.ensures.report (omega (arith, paid, later)) c.in_ok-paging.ensures.paging c.remove.ensures.entries)

pub returns-clause-cost : goal.returns-clause-cost
returns-clause-cost g c =
    let old : owed c.args.self.now.flights ≡ owed (flights_in c.self.inside.flights.entries c.self.inside.opened) = ap (λ (s : Flying). owed s.flights) (sym c.self.view_is) in
    let one = gone_owed c.args.number c.self.inside.opened c.self.inside.flights.entries c.remove.new.self.entries c.in-Some-remove.flight (sym c.remove.ensures.value ∙ c.in-Some-remove.is) c.remove.ensures.entries in
    let paid = c.in_ok-paging.ensures.cost in
    omega (arith, old, one, paid)
