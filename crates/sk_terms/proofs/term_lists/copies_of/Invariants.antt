use Rattle.std.proofs.Common.{◌≡◌, take}
use Rattle.sk_terms.proofs.term_lists.copies_of.Given as goal

abbrev pub invariant-copies : goal.invariant-copies
invariant-copies l = l.copies.items ≡ take l.list-index l.lists
