-- A value that is not empty leaves none empty, and its zone tells of it.
use Rattle.std.proofs.Common.{true, true≢false, ◌≡◌, ◌≤◌, ℕ, List, length, Result, Ok, Err, OnOk, OnErr, subst, sym}
use Rattle.sk_sorted.specs.Entries.{put, has}
use Rattle.sk_sorted.specs.Runs.{flat}
use Rattle.sk_values.specs.SlotValues.{SlotValues, SlotRuns, HaveValues}
use Rattle.sk_values.specs.declared.zones.Zone.{Zone}
use Rattle.sk_values.specs.Zones.{IsToldAt, AreZoned}
use Rattle.sk_values.proofs.ValueLaws.{HaveValues-put}
use Rattle.sk_values.proofs.ZoneLaws.{zoned_wider, AreZoned-put, zone_there}
use Rattle.sk_values.proofs.slot_list.SlotList.set.Goals as goal

kept : {A E : Type 0} (r : Result A E) (id : ℕ) (value : List ℕ) (old new : SlotRuns) (zones : List Zone) → OnOk r (flat new ≡ put id value (flat old)) → OnErr r (new ≡ old)
    → 1 ≤ length value → IsToldAt zones id value → HaveValues (flat old) × AreZoned zones (flat old) → HaveValues (flat new) × AreZoned zones (flat new)
kept (Ok x) id value old new zones ok err some told are =
    subst (λ (es : SlotValues). HaveValues es × AreZoned zones es) (sym ok) (HaveValues-put id value (flat old) some are.0, AreZoned-put zones id value (flat old) told are.1)
kept (Err e) id value old new zones ok err some told are = subst (λ (s : SlotRuns). HaveValues (flat s) × AreZoned zones (flat s)) (sym err) are

pub returns-in_err-widen-clause-succeeds : goal.returns-in_err-widen-clause-succeeds
returns-in_err-widen-clause-succeeds c there =
    let zone = zone_there c.self.inside.zones.items c.args.id (flat c.self.inside.entries) (subst (λ (s : SlotRuns). has c.args.id (flat s) ≡ true) (sym c.self.view_is) there) c.self.invariant.1 in
    absurd (true≢false (sym (c.in_err-widen.ensures.succeeds zone)))

pub invariant_of-self : goal.invariant_of-self
invariant_of-self c = (c.self.invariant.0, zoned_wider c.self.inside.zones.items c.widen.new.zones.items (flat c.self.inside.entries) c.widen.ensures.wider c.self.invariant.1)

pub invariant_of-self-2 : goal.invariant_of-self-2
invariant_of-self-2 c =
    kept c.put.result c.args.id c.args.value c.self.inside.entries c.put.new.self c.widen.new.zones.items c.put.ensures.ok c.put.ensures.err c.requires.some c.in_ok-widen.ensures.told
    (c.self.invariant.0, zoned_wider c.self.inside.zones.items c.widen.new.zones.items (flat c.self.inside.entries) c.widen.ensures.wider c.self.invariant.1)
