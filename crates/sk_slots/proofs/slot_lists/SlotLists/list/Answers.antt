-- The list of the slot stands at its place, or there is none.
use Rattle.std.proofs.Common.{◌==◌, position, sym, ap, ◌∙◌}
use Rattle.sk_sorted.specs.Runs.{flat}
use Rattle.sk_values.specs.SlotValues.{SlotRuns}
use Rattle.sk_slots.specs.declared.slot_lists.SlotEntry.{SlotEntry}
use Rattle.sk_slots.specs.Slotted.{slot_pieces}
use Rattle.sk_slots.proofs.SlottedLemmas.{pieces_at, none_from, slot_pieces-none, flat-slot_pieces}
use Rattle.sk_slots.proofs.slot_lists.SlotLists.list.Goals as goal

pub returns-in-Some-clause-pieces : goal.returns-in-Some-clause-pieces
returns-in-Some-clause-pieces c =
    let at = ap (position (λ (one : SlotEntry). one.slot == c.args.slot)) c.self.view_is ∙ sym c.place_of.ensures.value ∙ c.in-Some.is in
    pieces_at c.args.slot c.self.inside.slots.items c.in-Some.at c.index.result.now at c.index.ensures ∙ ap (slot_pieces c.args.slot) c.self.view_is

pub returns-in-Some-clause-entries : goal.returns-in-Some-clause-entries
returns-in-Some-clause-entries c =
    let at = ap (position (λ (one : SlotEntry). one.slot == c.args.slot)) c.self.view_is ∙ sym c.place_of.ensures.value ∙ c.in-Some.is in
    ap (λ (rs : SlotRuns). flat rs) (pieces_at c.args.slot c.self.inside.slots.items c.in-Some.at c.index.result.now at c.index.ensures ∙ ap (slot_pieces c.args.slot) c.self.view_is)
    ∙ flat-slot_pieces c.args.slot c.args.self.now

pub returns-in-None-clause-pieces : goal.returns-in-None-clause-pieces
returns-in-None-clause-pieces c = c.self.invariant.0 ∙ sym (slot_pieces-none c.args.slot c.args.self.now (none_from c.args.slot c.args.self.now (sym c.place_of.ensures.value ∙ c.in-None.is)))

pub returns-in-None-clause-entries : goal.returns-in-None-clause-entries
returns-in-None-clause-entries c =
    ap (λ (rs : SlotRuns). flat rs) (c.self.invariant.0 ∙ sym (slot_pieces-none c.args.slot c.args.self.now (none_from c.args.slot c.args.self.now (sym c.place_of.ensures.value ∙ c.in-None.is))))
    ∙ flat-slot_pieces c.args.slot c.args.self.now
