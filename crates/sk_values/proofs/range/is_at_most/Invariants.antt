-- The bytes before the place are the same, so those from there on decide.
use Rattle.std.proofs.Common.{◌≡◌, ◌-◌, ◌≤◌, length, drop}
use Rattle.std.specs.Ordering.{nat_cmp}
use Rattle.std.specs.Cmp.Lexicographic.{slice_cmp}
use Rattle.sk_values.proofs.range.is_at_most.Given as goal

abbrev pub invariant-bytes : goal.invariant-bytes
invariant-bytes l = record {
  first : l.i ≤ length l.a;
  second : l.i ≤ length l.b;
  same : slice_cmp nat_cmp (drop l.i l.a) (drop l.i l.b) ≡ slice_cmp nat_cmp l.a l.b;
}

abbrev pub decreases-bytes : goal.decreases-bytes
decreases-bytes l = l.both - l.i
