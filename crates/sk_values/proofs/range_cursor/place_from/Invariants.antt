-- It stands on a place of the list, and passed over what lies below the target alone.
use Rattle.std.proofs.Common.{◌≡◌, ◌≤◌, ◌-◌, drop}
use Rattle.sk_sorted.specs.Entries.{from}
use Rattle.sk_sorted.specs.Runs.{flat}
use Rattle.sk_values.specs.RangeCursor.{IsPlaceIn}
use Rattle.sk_values.proofs.range_cursor.place_from.Given as goal

abbrev pub invariant-pieces : goal.invariant-pieces
invariant-pieces l = record {
  onward : l.fn.start.piece ≤ l.place.piece;
  before : l.place.piece ≤ l.at;
  at : IsPlaceIn l.place l.list;
  unread : l.place.readings ≡ l.fn.start.readings;
  behind : l.fn.start.passed ≤ l.place.passed;
  left : from l.target (drop l.place.passed (flat l.list)) ≡ from l.target (drop l.fn.start.passed (flat l.list));
}

abbrev pub decreases-pieces : goal.decreases-pieces
decreases-pieces l = l.at - l.place.piece
