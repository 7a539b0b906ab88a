-- A removal leaves no value empty, and all zones as they are.
use Rattle.std.proofs.Common.{subst, sym}
use Rattle.sk_sorted.specs.Runs.{flat}
use Rattle.sk_values.specs.SlotValues.{SlotValues, HaveValues}
use Rattle.sk_values.specs.Zones.{AreZoned}
use Rattle.sk_values.proofs.ValueLaws.{HaveValues-without}
use Rattle.sk_values.proofs.ZoneLaws.{AreZoned-without}
use Rattle.sk_values.proofs.slot_list.SlotList.clear.Goals as goal

pub invariant_of-self : goal.invariant_of-self
invariant_of-self c =
    subst (λ (es : SlotValues). HaveValues es × AreZoned c.self.inside.zones.items es) (sym c.take.ensures.after)
    (HaveValues-without c.args.id (flat c.self.inside.entries) c.self.invariant.0, AreZoned-without c.self.inside.zones.items c.args.id (flat c.self.inside.entries) c.self.invariant.1)
