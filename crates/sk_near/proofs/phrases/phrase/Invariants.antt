use Rattle.std.proofs.Common.{◌<◌, ◌-◌, ◌^◌}
use Rattle.sk_near.proofs.PhraseLemmas.{BeginFrom}
use Rattle.sk_near.proofs.phrases.phrase.Given as goal

abbrev pub invariant-starts : goal.invariant-starts
invariant-starts g l = record {
  begins : BeginFrom l.window l.low (g.P.Operands.places l.lists);
  small : l.low < 2 ^ 32;
}

abbrev pub decreases-starts : goal.decreases-starts
decreases-starts g l = 2 ^ 32 - l.low
