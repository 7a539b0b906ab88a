use Rattle.std.proofs.Common.{◌≡◌, ◌≤◌, ◌+◌, ◌-◌, drop}
use Rattle.sk_values.specs.RangeCursor.{in_range}
use Rattle.sk_values.proofs.range_cursor.stop_in.Given as goal

abbrev pub invariant-entries : goal.invariant-entries
invariant-entries g l = record {
  behind : l.place ≤ l.read;
  within : l.read ≤ l.end;
  left : in_range l.bounds.lo l.bounds.hi (drop l.read l.piece) ≡ in_range l.bounds.lo l.bounds.hi (drop l.place l.piece);
  cost : l.steps + l.place ≡ l.fn.steps + l.read;
}

abbrev pub decreases-entries : goal.decreases-entries
decreases-entries g l = l.end - l.read
