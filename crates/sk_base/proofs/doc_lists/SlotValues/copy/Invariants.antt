use Rattle.std.proofs.Common.{◌≡◌, take}
use Rattle.sk_base.proofs.doc_lists.SlotValues.copy.Given as goal

abbrev pub invariant-values : goal.invariant-values
invariant-values l = l.items.items ≡ take l.value-index l.value-items
