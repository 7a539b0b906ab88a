use Rattle.std.proofs.Common.{◌≡◌, take}
use Rattle.sk_base.proofs.doc_lists.DocTerms.copy.Given as goal

abbrev pub invariant-terms : goal.invariant-terms
invariant-terms l = l.items.items ≡ take l.term-index l.term-items
