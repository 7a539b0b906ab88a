-- It stands at the front of a piece, and not behind the place.
use Rattle.std.proofs.Common.{◌≤◌, ◌-◌, length}
use Rattle.sk_sorted.specs.Runs.{IsPlace}
use Rattle.sk_values.proofs.slot_list.piece_at.Given as goal

abbrev pub invariant-pieces : goal.invariant-pieces
invariant-pieces l = record {
  place : IsPlace l.pieces l.at 0 l.passed;
  before : l.passed ≤ l.i;
}

abbrev pub decreases-pieces : goal.decreases-pieces
decreases-pieces l = length l.pieces - l.at
