-- Zones of no value were put behind those that were there.
use Rattle.std.proofs.Common.{◌+◌, ◌-◌, length}
use Rattle.sk_values.specs.Zones.{AreWider}
use Rattle.sk_values.proofs.zones.widen.Given as goal

abbrev pub invariant-zones : goal.invariant-zones
invariant-zones l = AreWider l.fn.zones.items l.zones.items

abbrev pub decreases-zones : goal.decreases-zones
decreases-zones l = l.at + 1 - length l.zones.items
