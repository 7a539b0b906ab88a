-- What was read lies below the target, each entry counted, and more is there.
use Rattle.std.proofs.Common.{◌≡◌, ◌≤◌, ◌+◌, ◌-◌, ◌<◌, length, drop, take}
use Rattle.sk_sorted.specs.Entries.{LieBelow}
use Rattle.sk_lists.proofs.cursor.Cursor.read_on.Given as goal

abbrev pub invariant-seek : goal.invariant-seek
invariant-seek g l = record {
  run : l.self.run ≡ l.fn.self.run;
  read : l.self.read ≡ l.fn.self.read;
  onward : l.fn.self.read ≤ l.read;
  more : l.read < length l.chunk;
  below : LieBelow l.target (take (l.read - l.fn.self.read) (drop l.fn.self.read l.chunk));
  cost : l.steps ≡ l.fn.steps + (l.read - l.fn.self.read);
}

abbrev pub decreases-seek : goal.decreases-seek
decreases-seek g l = length l.chunk - l.read
