use Rattle.std.proofs.Common.{◌≡◌, ◌++◌}
use Rattle.sk_reference.proofs.search.copy_of.Given as goal

-- what was copied, and what is left, are the documents
abbrev pub invariant-docs : goal.invariant-docs
invariant-docs l = l.copy.entries ++ l.id-iterator ≡ l.docs.entries
