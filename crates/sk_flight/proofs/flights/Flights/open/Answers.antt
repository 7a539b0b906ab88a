use Rattle.std.proofs.Common.{◌≡◌, ◌<◌, ◌+◌, ◌∷◌, [], ◌++◌, length, refl, sym, ap, subst, ◌∙◌, arith}
use Rattle.sk_query.specs.Trees.{query_view}
use Rattle.sk_report.specs.Flights.{MayBeOpen, Begins, owed}
use Rattle.sk_flight.specs.Kept.{AreFlights, open_of, flights_in}
use Rattle.sk_flight.specs.Flying.{Flying}
use Rattle.sk_flight.proofs.EntryLemmas.{kept_last, insert_last}
use Rattle.sk_flight.proofs.OpenLemmas.{room_is, opened_as, opened_owed}
use Rattle.sk_flight.proofs.flights.Flights.open.Goals as goal

pub invariant_of-self-2 : goal.invariant_of-self-2
invariant_of-self-2 g c =
    subst (AreFlights (c.self.inside.opened + 1)) (sym (c.in_ok-insert.ensures.entries ∙ insert_last c.self.inside.opened c.in_ok-flight.flight c.self.inside.flights.entries c.self.invariant.numbers))
    (kept_last c.self.inside.opened c.self.inside.flights.entries c.in_ok-flight.flight c.self.invariant c.in_ok-flight.ensures.flight (omega (arith, c.if-len-ge-MOST.false, c.len.ensures.len)))

pub overflow_add-number : goal.overflow_add-number
overflow_add-number g c = let same : c.args.self.now.flights.opened ≡ c.self.inside.opened = ap (λ (s : Flying). s.flights.opened) (sym c.self.view_is) in omega (arith, same, c.requires.left)

pub returns-clause-opens : goal.returns-clause-opens
returns-clause-opens g c =
    rw (← c.self.view_is) (
      refl,
      opened_as c.self.inside.opened c.self.inside.flights.entries c.insert.new.self.entries c.in_ok-flight.flight c.self.invariant.numbers
          (c.in_ok-insert.ensures.entries ∙ insert_last c.self.inside.opened c.in_ok-flight.flight c.self.inside.flights.entries c.self.invariant.numbers)
          c.args.paging (query_view c.args.query) c.self.inside.newest.value.live.documents (omega (arith, c.if-len-ge-MOST.false, c.len.ensures.len))
          (subst (λ i. Begins MayBeOpen c.args.paging (query_view c.args.query) i.live.documents (open_of c.in_ok-flight.flight)) c.in-Ok.ensures.cases c.in_ok-flight.ensures.begins),
    )

pub returns-clause-cost : goal.returns-clause-cost
returns-clause-cost g c =
    let old : owed c.args.self.now.flights ≡ owed (flights_in c.self.inside.flights.entries c.self.inside.opened) = ap (λ (s : Flying). owed s.flights) (sym c.self.view_is) in
    let new = opened_owed c.self.inside.opened c.self.inside.flights.entries c.insert.new.self.entries c.in_ok-flight.flight c.self.invariant.numbers
    (c.in_ok-insert.ensures.entries ∙ insert_last c.self.inside.opened c.in_ok-flight.flight c.self.inside.flights.entries c.self.invariant.numbers) in
    let paid = c.in_ok-flight.ensures.cost in
    omega (arith, old, new, paid)

pub returns-in_default-clause-full : goal.returns-in_default-clause-full
returns-in_default-clause-full g c =
    rw (← c.self.view_is)
    (λ full. absurd (room_is c.self.inside.opened c.self.inside.flights.entries (omega (arith, c.if-len-ge-MOST.false, c.len.ensures.len)) full))

pub returns-in_err-flight-clause-full : goal.returns-in_err-flight-clause-full
returns-in_err-flight-clause-full g c =
    rw (← c.self.view_is)
    (λ full. absurd (room_is c.self.inside.opened c.self.inside.flights.entries (omega (arith, c.if-len-ge-MOST.false, c.len.ensures.len)) full))

pub returns-in_err-insert-clause-full : goal.returns-in_err-insert-clause-full
returns-in_err-insert-clause-full g c =
    rw (← c.self.view_is)
    (λ full. absurd (room_is c.self.inside.opened c.self.inside.flights.entries (omega (arith, c.if-len-ge-MOST.false, c.len.ensures.len)) full))
