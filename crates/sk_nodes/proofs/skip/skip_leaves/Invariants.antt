-- Nothing that was skipped weighs what is needed.
use Rattle.std.proofs.Common.{◌≤◌, ◌<◌, ◌^◌, ◌-◌, ℕ}
use Rattle.sk_model.specs.Combining.{both}
use Rattle.sk_nodes.specs.Leaves.{leaf_rest}
use Rattle.sk_nodes.specs.Skips.{WeighsBelow}
use Rattle.sk_nodes.proofs.skip.skip_leaves.Given as goal

abbrev pub invariant-heads : goal.invariant-heads
invariant-heads l = record {
  later : l.fn.from ≤ l.from;
  within : l.from < 2 ^ 32;
  light : (id : ℕ) → l.fn.from ≤ id → id < l.from → WeighsBelow l.need (both (leaf_rest l.index l.a id) (leaf_rest l.index l.b id));
}

abbrev pub decreases-heads : goal.decreases-heads
decreases-heads l = 2 ^ 32 - l.from
