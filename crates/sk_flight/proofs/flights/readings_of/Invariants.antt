use Rattle.std.proofs.Common.{◌≡◌, ◌++◌, ℕ}
use Rattle.std.specs.List.{AllByRecursion}
use Rattle.sk_flight.specs.declared.flight.Flight.{Flight}
use Rattle.sk_flight.specs.Kept.{IsFlight, spent_in}
use Rattle.sk_flight.proofs.flights.readings_of.Given as goal

-- what was read so far, and what is left
abbrev pub invariant-flights : goal.invariant-flights
invariant-flights l =
    (l.readings.items ++ spent_in l.number-iterator ≡ spent_in l.flights.entries) × AllByRecursion (λ (e : ℕ × Flight). IsFlight e.1) l.number-iterator
