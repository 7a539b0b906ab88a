use Rattle.std.proofs.Common.{◌≡◌, ◌-◌, ℕ, ◌<◌, ◌≤◌, length}
use Rattle.sk_buckets.specs.Dealt.{bucket_at}
use Rattle.sk_buckets.proofs.bucket.first_filled.Given as goal

abbrev pub invariant-loop-at : goal.invariant-loop-at
invariant-loop-at l = record {
  within : l.at ≤ length l.buckets;
  from : l.from ≤ l.at;
  empty : (place : ℕ) → l.from ≤ place → place < l.at → (bucket_at l.buckets place).count ≡ 0;
}

abbrev pub decreases-loop-at : goal.decreases-loop-at
decreases-loop-at l = length l.buckets - l.at
