-- It stands on a place of the list, and what it read lies outside the range, or was passed over.
use Rattle.std.proofs.Common.{◌≡◌, ◌≤◌, ◌+◌, ◌-◌, ℕ, List, length, drop}
use Rattle.sk_sorted.specs.Runs.{flat}
use Rattle.sk_values.specs.Numbers.{IsNumber}
use Rattle.sk_values.specs.RangeCursor.{in_range, IsPlaceIn}
use Rattle.sk_values.specs.Behind.{Skips}
use Rattle.sk_values.proofs.range_cursor.skip_from.Given as goal

abbrev pub invariant-pieces : goal.invariant-pieces
invariant-pieces g l = record {
  at : IsPlaceIn l.place l.list;
  few : l.fn.start.passed + l.count ≤ l.place.passed;
  skips : (last : List ℕ) → IsNumber l.edge.number last
      → Skips l.edge.reverse last l.count (in_range l.bounds.lo l.bounds.hi (drop l.fn.start.passed (flat l.list))) (in_range l.bounds.lo l.bounds.hi (drop l.place.passed (flat l.list)));
  once : l.place.readings + l.fn.start.passed ≤ l.fn.start.readings + l.place.passed;
  later : l.fn.start.readings ≤ l.place.readings;
  cost : l.steps + l.fn.start.readings ≡ l.fn.steps + l.place.readings;
}

abbrev pub decreases-pieces : goal.decreases-pieces
decreases-pieces g l = length l.pieces - l.place.piece
