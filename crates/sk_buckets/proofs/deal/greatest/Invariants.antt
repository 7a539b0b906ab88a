use Rattle.std.proofs.Common.{◌≡◌, ◌+◌, drop}
use Rattle.sk_buckets.specs.Marks.{greatest_of}
use Rattle.sk_buckets.proofs.deal.greatest.Given as goal

abbrev pub invariant-loop-mark : goal.invariant-loop-mark
invariant-loop-mark l = l.greatest + greatest_of (drop l.mark-index l.marks) ≡ greatest_of l.marks
