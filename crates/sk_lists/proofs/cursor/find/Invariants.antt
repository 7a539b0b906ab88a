-- What was gone over may be passed over, and what is next does not end below the target.
use Rattle.std.proofs.Common.{◌≡◌, ℕ, ◌-◌, ◌<◌, ◌≤◌, [], length, get_or}
use Rattle.sk_sorted.specs.Entries.{top_id}
use Rattle.sk_lists.specs.Seeks.{IsSkipped}
use Rattle.sk_lists.proofs.cursor.find.Given as goal

abbrev pub invariant-chunks : goal.invariant-chunks
invariant-chunks l = record {
  from : l.run ≤ l.at;
  within : l.at ≤ length l.list;
  count : l.count ≡ length l.list;
  skips : (k : ℕ) → l.run ≤ k → k < l.at → IsSkipped l.target l.need_wdf (get_or l.list k []);
  reaches : l.at < length l.list → l.target ≤ top_id 0 (get_or l.list l.at []);
}

abbrev pub decreases-chunks : goal.decreases-chunks
decreases-chunks l = length l.list - l.at
