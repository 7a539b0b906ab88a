-- The lists before the place are without the document.
use Rattle.sk_slots.proofs.SlottedLemmas.{AreCutTo}
use Rattle.sk_slots.proofs.slot_lists.SlotLists.clear_all.Given as goal

abbrev pub invariant-slots : goal.invariant-slots
invariant-slots l = AreCutTo l.id l.initial.one-items l.one-items l.one-index
