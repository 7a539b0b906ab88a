use Rattle.std.proofs.Common.{◌≤◌, ◌-◌, length}
use Rattle.sk_near.specs.Places.{IsPassed}
use Rattle.sk_near.proofs.places.place_of.Given as goal

abbrev pub invariant-steps : goal.invariant-steps
invariant-steps l = record { some : 1 ≤ l.step; passed : IsPassed l.bound l.positions l.low }

abbrev pub decreases-steps : goal.decreases-steps
decreases-steps l = length l.positions - l.low
