use Rattle.std.proofs.Common.{◌≡◌, length, take}
use Rattle.sk_buckets.specs.Dealt.{AreDealt}
use Rattle.sk_buckets.proofs.deal.deal.Given as goal

abbrev pub invariant-loop-which : goal.invariant-loop-which
invariant-loop-which l = record {
  dealt : AreDealt (take l.which l.marks) l.base l.buckets l.next;
  len : length l.buckets ≡ length l.initial.buckets;
  long : length l.next ≡ length l.marks;
}
