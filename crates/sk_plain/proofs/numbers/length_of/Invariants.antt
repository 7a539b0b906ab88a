use Rattle.std.proofs.Common.{◌≡◌, ◌≤◌, ◌+◌, length}
use Rattle.sk_base.specs.Numbers.{length_of}
use Rattle.sk_plain.proofs.numbers.length_of.Given as goal

-- those that were counted, and those of the documents that are left, are all
abbrev pub invariant-docs : goal.invariant-docs
invariant-docs l =
    (l.count + length_of l.term l.doc-iterator ≡ length_of l.term l.docs.entries) × (l.count + length l.doc-iterator ≤ length l.docs.entries)
