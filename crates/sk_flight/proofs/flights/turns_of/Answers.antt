use Rattle.std.proofs.Common.{rules, ◌≡◌, sym, ap, subst, ◌∙◌, arith}
use Rattle.std.specs.Map.{remove_entry}
use Rattle.sk_report.specs.Flights.{at}
use Rattle.sk_flight.specs.Kept.{AreFlights, flights_in}
use Rattle.sk_flight.specs.Told.{was_done}
use Rattle.sk_flight.proofs.EntryLemmas.{remove_set, kept_set, kept_gone}
use Rattle.sk_flight.proofs.OpenLemmas.{turned_as, turned_owed, not_open, is_open}
use Rattle.sk_flight.proofs.flights.turns_of.Goals as goal

pub returns-in_default-clause-turns : goal.returns-in_default-clause-turns
returns-in_default-clause-turns g c opened =
    let same : c.get_mut.follows.lender-at-none.entries ≡ c.args.flights.now.entries = search rules in
    (not_open c.args.number opened c.args.flights.now.entries (sym c.in_default.ensures.value), ap (λ xs. flights_in xs opened) same)

pub returns-in-Ok-clause-kept : goal.returns-in-Ok-clause-kept
returns-in-Ok-clause-kept g c opened are =
    subst (AreFlights opened) (sym (c.get_mut.follows.holds c.turns.new.self).0) (kept_set opened (at c.args.number) c.args.flights.now.entries c.turns.new.self are c.in-Ok.ensures.flight)

pub returns-in-Ok-clause-turns : goal.returns-in-Ok-clause-turns
returns-in-Ok-clause-turns g c opened =
    turned_as c.args.number c.args.times opened c.args.flights.now.entries (c.get_mut.follows.lender c.turns.new.self).entries c.in-Some.flight.now c.turns.new.self (was_done c.in-Ok.turn) (sym c.in-Some.ensures.value) c.in-Ok.ensures.turned c.in-Ok.ensures.ended (c.get_mut.follows.holds c.turns.new.self).0

pub returns-in-Ok-clause-cost : goal.returns-in-Ok-clause-cost
returns-in-Ok-clause-cost g c opened =
    let one = turned_owed c.args.number opened c.args.flights.now.entries (c.get_mut.follows.lender c.turns.new.self).entries c.in-Some.flight.now c.turns.new.self (sym c.in-Some.ensures.value) (c.get_mut.follows.holds c.turns.new.self).0 in
    let paid = c.in-Ok.ensures.cost in
    omega (arith, one, paid)

pub returns-in-Err-clause-gone : goal.returns-in-Err-clause-gone
returns-in-Err-clause-gone g c =
    c.remove.ensures.entries ∙ ap (remove_entry (at c.args.number)) (c.get_mut.follows.holds c.turns.new.self).0 ∙ remove_set (at c.args.number) c.args.flights.now.entries c.turns.new.self

pub returns-in-Err-clause-kept : goal.returns-in-Err-clause-kept
returns-in-Err-clause-kept g c opened are = subst (AreFlights opened) (sym (returns-in-Err-clause-gone g c)) (kept_gone opened (at c.args.number) c.args.flights.now.entries are)

pub returns-in-Err-clause-succeeds : goal.returns-in-Err-clause-succeeds
returns-in-Err-clause-succeeds g c opened none = absurd (is_open c.args.number opened c.args.flights.now.entries c.in-Some.flight.now (sym c.in-Some.ensures.value) none)
