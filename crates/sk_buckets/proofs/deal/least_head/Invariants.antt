use Rattle.std.proofs.Common.{◌≡◌, ◌≤◌, ◌^◌, min, drop}
use Rattle.sk_buckets.specs.Marks.{first_head}
use Rattle.sk_buckets.proofs.deal.least_head.Given as goal

abbrev pub invariant-loop-mark : goal.invariant-loop-mark
invariant-loop-mark l = record {
  small : l.least ≤ 2 ^ 32;
  least : min l.least (first_head (drop l.mark-index l.marks)) ≡ first_head l.marks;
}
