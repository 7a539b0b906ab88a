use Rattle.std.proofs.Common.{◌≡◌, sym, ap, subst, ◌∙◌, arith}
use Rattle.sk_report.specs.Flights.{at, owed}
use Rattle.sk_flight.specs.Kept.{AreFlights, flights_in}
use Rattle.sk_flight.specs.Flying.{Flying}
use Rattle.sk_flight.specs.Told.{Drops}
use Rattle.sk_flight.proofs.EntryLemmas.{kept_gone, found_is, remove_none}
use Rattle.sk_flight.proofs.OpenLemmas.{gone_owed, dropped_as, not_open}
use Rattle.sk_flight.proofs.flights.Flights.abandon.Goals as goal

pub spent-spent-requires : goal.spent-spent-requires
spent-spent-requires c = found_is (at c.args.number) c.self.inside.flights.entries c.in_ok-flight.flight c.self.invariant.flights (sym c.in_ok-flight.ensures.value)

pub invariant_of-self-2 : goal.invariant_of-self-2
invariant_of-self-2 c = subst (AreFlights c.self.inside.opened) (sym c.remove.ensures.entries) (kept_gone c.self.inside.opened (at c.args.number) c.self.inside.flights.entries c.self.invariant)

pub returns-clause-told : goal.returns-clause-told
returns-clause-told c =
    let old : owed c.args.self.now.flights ≡ owed (flights_in c.self.inside.flights.entries c.self.inside.opened) = ap (λ (s : Flying). owed s.flights) (sym c.self.view_is) in
    let one = gone_owed c.args.number c.self.inside.opened c.self.inside.flights.entries c.remove.new.self.entries c.in_ok-flight.flight (sym c.in_ok-flight.ensures.value) c.remove.ensures.entries in
    omega (arith, old, one, c.spent-spent.ensures)

pub returns-clause-drops : goal.returns-clause-drops
returns-clause-drops c =
    rw (← c.self.view_is)
    (dropped_as c.args.number c.self.inside.opened c.self.inside.flights.entries c.remove.new.self.entries c.in_ok-flight.flight c.spent-spent.result (sym c.in_ok-flight.ensures.value)
    (found_is (at c.args.number) c.self.inside.flights.entries c.in_ok-flight.flight c.self.invariant.flights (sym c.in_ok-flight.ensures.value)) c.spent-spent.ensures c.remove.ensures.entries)

pub returns-in_err-flight-clause-drops : goal.returns-in_err-flight-clause-drops
returns-in_err-flight-clause-drops c =
    let none = sym c.in_err-flight.ensures.value in
    let es = c.self.inside.flights.entries in
    let opened = c.self.inside.opened in
    rw (← c.self.view_is)
    (subst (Drops c.args.number (flights_in es opened) (flights_in c.remove.new.self.entries opened)) (sym c.from_residual.ensures)
    (not_open c.args.number opened es none, ap (λ xs. flights_in xs opened) (c.remove.ensures.entries ∙ remove_none (at c.args.number) es none)))
