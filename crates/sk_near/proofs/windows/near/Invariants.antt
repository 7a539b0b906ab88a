use Rattle.std.proofs.Common.{◌<◌, ◌-◌, ◌^◌}
use Rattle.sk_near.specs.Windows.{WindowsFrom}
use Rattle.sk_near.proofs.windows.near.Given as goal

abbrev pub invariant-bounds : goal.invariant-bounds
invariant-bounds g l = record {
  from : WindowsFrom l.window l.low (g.P.Operands.places l.lists);
  small : l.low < 2 ^ 32;
}

abbrev pub decreases-bounds : goal.decreases-bounds
decreases-bounds g l = 2 ^ 32 - l.low
