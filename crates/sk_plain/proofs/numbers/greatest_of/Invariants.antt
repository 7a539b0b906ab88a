use Rattle.std.proofs.Common.{◌≡◌, max}
use Rattle.sk_base.specs.Numbers.{greatest_of}
use Rattle.sk_plain.proofs.numbers.greatest_of.Given as goal

-- the greatest so far, and that of the documents that are left
abbrev pub invariant-docs : goal.invariant-docs
invariant-docs l = max l.most (greatest_of l.term l.doc-iterator) ≡ greatest_of l.term l.docs.entries
