use Rattle.std.proofs.Common.{◌≡◌, ◌≤◌, ◌+◌, length}
use Rattle.sk_model.specs.Sharp.{up}
use Rattle.sk_sharp.proofs.readings.up.Given as goal

-- those that were counted, and those of the documents that are left, are all
abbrev pub invariant-docs : goal.invariant-docs
invariant-docs l =
    (l.count + up l.term l.id l.one-iterator ≡ up l.term l.id l.docs.entries) × (l.count + length l.one-iterator ≤ length l.docs.entries)
