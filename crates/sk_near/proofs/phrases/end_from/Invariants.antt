use Rattle.std.proofs.Common.{◌≡◌, ◌≤◌, ◌-◌, ◌^◌, drop, length}
use Rattle.sk_near.specs.Soonest.{soonest_end}
use Rattle.sk_near.proofs.phrases.end_from.Given as goal

abbrev pub invariant-runs : goal.invariant-runs
invariant-runs g l = record {
  so_far : soonest_end l.bound (drop l.i (g.P.Operands.places l.lists)) ≡ soonest_end l.fn.bound (drop l.fn.i (g.P.Operands.places l.lists));
  small : l.bound ≤ 2 ^ 32;
}

abbrev pub decreases-runs : goal.decreases-runs
decreases-runs g l = length (g.P.Operands.places l.lists) - l.i
