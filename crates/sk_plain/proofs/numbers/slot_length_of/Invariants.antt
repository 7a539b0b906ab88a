use Rattle.std.proofs.Common.{◌≡◌, ◌≤◌, ◌+◌, length}
use Rattle.sk_base.specs.Numbers.{slot_length_of}
use Rattle.sk_plain.proofs.numbers.slot_length_of.Given as goal

-- those that were counted, and those of the documents that are left, are all
abbrev pub invariant-docs : goal.invariant-docs
invariant-docs l =
    (l.count + slot_length_of l.slot l.doc-iterator ≡ slot_length_of l.slot l.docs.entries) × (l.count + length l.doc-iterator ≤ length l.docs.entries)
