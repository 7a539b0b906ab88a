-- The list of the slot is changed at its place, or put in its place.
use Rattle.std.proofs.Common.{rules, ◌==◌, if◌then◌else◌, List, length, nat_lt, position, sym, ap, subst, ◌∙◌, arith}
use Rattle.std.proofs.lemmas.List.Sorted.{IsPartitionPoint-from_clause}
use Rattle.sk_sorted.specs.Entries.{put}
use Rattle.sk_sorted.specs.Runs.{flat}
use Rattle.sk_slots.specs.declared.slot_lists.SlotEntry.{SlotEntry}
use Rattle.sk_slots.specs.Slotted.{slot_list, RiseFrom}
use Rattle.sk_slots.proofs.SlottedLemmas.{set_at, none_from, slot_list-insert, slots_parted, rise_at, rise_with}
use Rattle.sk_slots.proofs.slot_lists.SlotLists.set.Goals as goal

pub invariant_of-self : goal.invariant_of-self
invariant_of-self c = (c.self.invariant.0, rise_at c.self.inside.slots.items c.in-Some.at c.index_mut.result.now c.set.new.self (omega (arith, c.in-Some.ensures.there, ap length c.self.view_is)) c.index_mut.ensures.value c.self.invariant.1)

pub invariant_of-self-in-Some : goal.invariant_of-self-in-Some
invariant_of-self-in-Some c = (c.self.invariant.0, rise_at c.self.inside.slots.items c.in-Some.at c.index_mut.result.now c.set.new.self (omega (arith, c.in-Some.ensures.there, ap length c.self.view_is)) c.index_mut.ensures.value c.self.invariant.1)

pub invariant_of-self-in-None : goal.invariant_of-self-in-None
invariant_of-self-in-None c =
    let slots = c.self.inside.slots.items in
    let none = none_from c.args.slot slots (ap (position (λ (one : SlotEntry). one.slot == c.args.slot)) c.self.view_is ∙ sym c.place_of.ensures.value ∙ c.in-None.is) in
    let items = c.deref.result.now in
    let point = IsPartitionPoint-from_clause (λ (one : SlotEntry). nat_lt one.slot c.args.slot) items c.partition_point-at.result c.partition_point-at.ensures.partitioned (slots_parted c.args.slot items (subst (RiseFrom 0) (sym c.deref.ensures.value) c.self.invariant.1)) (λ a r q k. search rules) in
    (c.self.invariant.0, rise_with c.args.slot c.set-in-None.new.self items slots c.insert.new.self.items c.partition_point-at.result c.deref.ensures.value c.self.invariant.1 none c.partition_point-at.ensures.bound point c.in_ok-insert-in-None.ensures.items)

pub returns-in_ok-set-in-Some-clause-sets : goal.returns-in_ok-set-in-Some-clause-sets
returns-in_ok-set-in-Some-clause-sets c =
    let at = ap (position (λ (one : SlotEntry). one.slot == c.args.slot)) c.self.view_is ∙ sym c.place_of.ensures.value ∙ c.in-Some.is in
    λ s. set_at (put c.args.id c.args.value) c.args.slot c.self.inside.slots.items c.in-Some.at c.index_mut.result.now c.set.new.self at c.index_mut.ensures.value (c.in_ok-set-in-Some.ensures.ok ∙ ap (λ v. put c.args.id v (flat c.index_mut.result.now.list)) c.in_ok-value.ensures) s
    ∙ ap (λ (l : List SlotEntry). if c.args.slot == s then put c.args.id c.args.value (slot_list s l) else slot_list s l) c.self.view_is

pub returns-in_ok-set-in-Some-clause-rise : goal.returns-in_ok-set-in-Some-clause-rise
returns-in_ok-set-in-Some-clause-rise c = rise_at c.self.inside.slots.items c.in-Some.at c.index_mut.result.now c.set.new.self (omega (arith, c.in-Some.ensures.there, ap length c.self.view_is)) c.index_mut.ensures.value c.self.invariant.1

pub returns-in_ok-insert-in-None-clause-sets : goal.returns-in_ok-insert-in-None-clause-sets
returns-in_ok-insert-in-None-clause-sets c =
    let slots = c.self.inside.slots.items in
    let none = none_from c.args.slot slots (ap (position (λ (one : SlotEntry). one.slot == c.args.slot)) c.self.view_is ∙ sym c.place_of.ensures.value ∙ c.in-None.is) in
    let list = c.in_ok-set-in-None.ensures.ok ∙ (λ k. put c.args.id (c.in_ok-value.ensures k) (flat (c.new-list.ensures k))) in
    λ s. ap (slot_list s) c.in_ok-insert-in-None.ensures.items
    ∙ slot_list-insert c.args.id c.args.value c.args.slot slots c.partition_point-at.result c.set-in-None.new.self list none s
    ∙ ap (λ (l : List SlotEntry). if c.args.slot == s then put c.args.id c.args.value (slot_list s l) else slot_list s l) c.self.view_is

pub returns-in_ok-insert-in-None-clause-rise : goal.returns-in_ok-insert-in-None-clause-rise
returns-in_ok-insert-in-None-clause-rise c =
    let slots = c.self.inside.slots.items in
    let none = none_from c.args.slot slots (ap (position (λ (one : SlotEntry). one.slot == c.args.slot)) c.self.view_is ∙ sym c.place_of.ensures.value ∙ c.in-None.is) in
    let items = c.deref.result.now in
    let point = IsPartitionPoint-from_clause (λ (one : SlotEntry). nat_lt one.slot c.args.slot) items c.partition_point-at.result c.partition_point-at.ensures.partitioned (slots_parted c.args.slot items (subst (RiseFrom 0) (sym c.deref.ensures.value) c.self.invariant.1)) (λ a r q k. search rules) in
    rise_with c.args.slot c.set-in-None.new.self items slots c.insert.new.self.items c.partition_point-at.result c.deref.ensures.value c.self.invariant.1 none c.partition_point-at.ensures.bound point c.in_ok-insert-in-None.ensures.items
