use Rattle.std.proofs.Common.{◌≤◌, ◌-◌, length}
use Rattle.sk_nodes.specs.Repeats.{AreRunEndsFrom}
use Rattle.sk_nodes.proofs.repeats.run_ends.Given as goal

abbrev pub invariant-numbers : goal.invariant-numbers
invariant-numbers l = record {
  within : l.i ≤ length l.numbers;
  ends : AreRunEndsFrom (l.i - 1) l.ends.items l.numbers;
}

abbrev pub decreases-numbers : goal.decreases-numbers
decreases-numbers l = l.i
