use Rattle.std.proofs.Common.{◌-◌}
use Rattle.sk_near.specs.Places.{IsParted}
use Rattle.sk_near.proofs.places.place_between.Given as goal

abbrev pub invariant-halves : goal.invariant-halves
invariant-halves l = IsParted l.bound l.positions l.low l.high

abbrev pub decreases-halves : goal.decreases-halves
decreases-halves l = l.high - l.low
