-- All before the low place end below the target, and the one at the high place does not.
use Rattle.std.proofs.Common.{ℕ, ◌-◌, ◌<◌, ◌≤◌, get_or}
use Rattle.sk_sorted.proofs.reach.first_between.Given as goal

abbrev pub invariant-halve : goal.invariant-halve
invariant-halve g l = record {
  from : l.start ≤ l.low;
  order : l.low ≤ l.high;
  within : l.high ≤ l.end;
  before : (r : g.row.R.Denot) (k : ℕ) → l.start ≤ k → k < l.low → g.R.Ends.end (get_or l.runs k r) < l.target;
  reaches : (r : g.row.R.Denot) → l.high < l.end → l.target ≤ g.R.Ends.end (get_or l.runs l.high r);
}

abbrev pub decreases-halve : goal.decreases-halve
decreases-halve g l = l.high - l.low
