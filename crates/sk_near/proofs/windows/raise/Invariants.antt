use Rattle.std.proofs.Common.{◌≡◌, ◌≤◌, ◌<◌, ◌^◌, true, take}
use Rattle.sk_model.specs.Laws.{stand_within}
use Rattle.sk_near.specs.Windows.{WindowsFrom}
use Rattle.sk_near.proofs.windows.raise.Given as goal

abbrev pub invariant-loop-i : goal.invariant-loop-i
invariant-loop-i g l = record {
  later : l.low ≤ l.raised;
  small : l.raised < 2 ^ 32;
  from : WindowsFrom l.window l.raised (g.P.Operands.places l.lists);
  found : l.raised ≡ l.low → stand_within l.window l.raised (take l.i (g.P.Operands.places l.lists)) ≡ true;
}
