-- One list more, and none is left.
use Rattle.std.proofs.Common.{List, length, take, drop, set, ◌++◌, arith, sym, ap, subst, ◌∙◌}
use Rattle.sk_sorted.specs.Entries.{without}
use Rattle.sk_sorted.specs.Runs.{flat}
use Rattle.sk_slots.specs.declared.slot_lists.SlotEntry.{SlotEntry}
use Rattle.sk_slots.specs.Slotted.{ClearsAll, KeepsOthers}
use Rattle.sk_slots.proofs.SlottedLemmas.{cut_none, cut_on, rise_back, clears_back}
use Rattle.sk_slots.proofs.ValueLemmas.{others_cleared}
use Rattle.sk_slots.proofs.slot_lists.SlotLists.clear_all.Goals as goal

pub slots-init : goal.slots-init
slots-init c = cut_none _ _

pub slots-preserved : goal.slots-preserved
slots-preserved c =
    cut_on c.args.id c.slots.one-index c.deref_mut-one-items.result.now c.slots.one-items _ c.one-item.result c.clear.new.self c.slots.invariant (omega arith) c.one-item.is
    (c.clear.ensures.after ∙ ap (λ (x : SlotEntry). without c.args.id (flat x.list)) (sym c.one-item.is)) (ap (λ (x : SlotEntry). set c.slots.one-items c.slots.one-index (record { slot = x.slot; list = c.clear.new.self })) (sym c.one-item.is))

pub invariant_of-self : goal.invariant_of-self
invariant_of-self c =
    let slots = c.self.inside.slots in
    (c.self.invariant.0, rise_back c.args.id c.slots.one-index slots.len c.slots.one-items c.deref_mut-one-items.result.now slots.items c.deref_mut-one-items.ensures.value slots.ok.0 c.slots.invariant c.slots-test.false c.self.invariant.1)

pub returns-clause-clears : goal.returns-clause-clears
returns-clause-clears c =
    let slots = c.self.inside.slots in
    subst (λ (old : List SlotEntry). ClearsAll c.args.id old (take slots.len (c.slots.one-items ++ drop (length c.slots.one-items) slots.items))) c.self.view_is
    (clears_back c.args.id c.slots.one-index slots.len c.slots.one-items c.deref_mut-one-items.result.now slots.items c.deref_mut-one-items.ensures.value slots.ok.0 c.slots.invariant c.slots-test.false)

pub returns-clause-others : goal.returns-clause-others
returns-clause-others c =
    let slots = c.self.inside.slots in
    let now : List SlotEntry = take slots.len (c.slots.one-items ++ drop (length c.slots.one-items) slots.items) in
    subst (λ (old : List SlotEntry). KeepsOthers c.args.id old now) c.self.view_is
    (others_cleared c.args.id slots.items now c.self.invariant.1
    (rise_back c.args.id c.slots.one-index slots.len c.slots.one-items c.deref_mut-one-items.result.now slots.items c.deref_mut-one-items.ensures.value slots.ok.0 c.slots.invariant c.slots-test.false c.self.invariant.1)
    (clears_back c.args.id c.slots.one-index slots.len c.slots.one-items c.deref_mut-one-items.result.now slots.items c.deref_mut-one-items.ensures.value slots.ok.0 c.slots.invariant c.slots-test.false))
