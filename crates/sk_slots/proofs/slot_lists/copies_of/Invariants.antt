use Rattle.std.proofs.Common.{◌≡◌, take}
use Rattle.sk_slots.proofs.slot_lists.copies_of.Given as goal

abbrev pub invariant-copies : goal.invariant-copies
invariant-copies l = l.copies.items ≡ take l.one-index l.slots
