use Rattle.std.proofs.Common.{◌≡◌, ◌≤◌, ◌+◌}
use Rattle.sk_match.specs.Searches.{spent_by}
use Rattle.sk_flight.specs.Kept.{IsFlight, Made, open_of}
use Rattle.sk_flight.proofs.flight.Flight.turns.Given as goal

-- so many so far, and all of them moved on
abbrev pub invariant-turns : goal.invariant-turns
invariant-turns g l =
    IsFlight l.self × Made l.counter (open_of l.fn.self) (open_of l.self) × (l.steps + spent_by l.fn.self.search ≡ l.fn.steps + spent_by l.self.search) × (l.fn.steps ≤ l.steps)
