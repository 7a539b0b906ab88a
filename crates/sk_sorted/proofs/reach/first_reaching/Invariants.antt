-- All before the place end below the target.
use Rattle.std.proofs.Common.{ℕ, ◌-◌, ◌<◌, ◌≤◌, length, get_or}
use Rattle.sk_sorted.proofs.reach.first_reaching.Given as goal

abbrev pub invariant-gallop : goal.invariant-gallop
invariant-gallop g l = record {
  from : l.start ≤ l.from;
  within : l.from ≤ length l.runs;
  before : (r : g.row.R.Denot) (k : ℕ) → l.start ≤ k → k < l.from → g.R.Ends.end (get_or l.runs k r) < l.target;
}

abbrev pub decreases-gallop : goal.decreases-gallop
decreases-gallop g l = length l.runs - l.from
