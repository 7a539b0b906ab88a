-- What the values that are left do from here on, all values do from the start.
use Rattle.std.proofs.Common.{◌≡◌, length}
use Rattle.std.specs.Vec.Iter.{into_iter_items, into_iter_len}
use Rattle.sk_slots.proofs.SlottedLemmas.{AreLeft}
use Rattle.sk_slots.proofs.slot_lists.SlotLists.set_all.Given as goal

abbrev pub invariant-values : goal.invariant-values
invariant-values l =
    AreLeft l.id (into_iter_items l.initial.one-iterator) l.initial.self (into_iter_items l.one-iterator) l.self
    × (into_iter_len l.one-iterator ≡ length (into_iter_items l.one-iterator))
