-- What it read lies outside the range, or was passed over.
use Rattle.std.proofs.Common.{◌≡◌, ◌≤◌, ◌+◌, ◌-◌, ℕ, List, drop}
use Rattle.sk_values.specs.Numbers.{IsNumber}
use Rattle.sk_values.specs.RangeCursor.{in_range}
use Rattle.sk_values.specs.Behind.{Skips}
use Rattle.sk_values.proofs.range_cursor.skip_in.Given as goal

abbrev pub invariant-entries : goal.invariant-entries
invariant-entries g l = record {
  few : l.place + l.count ≤ l.read;
  within : l.read ≤ l.end;
  skips : (last : List ℕ) → IsNumber l.edge.number last → Skips l.edge.reverse last l.count (in_range l.bounds.lo l.bounds.hi (drop l.place l.piece)) (in_range l.bounds.lo l.bounds.hi (drop l.read l.piece));
  cost : l.steps + l.place ≡ l.fn.steps + l.read;
}

abbrev pub decreases-entries : goal.decreases-entries
decreases-entries g l = l.end - l.read
