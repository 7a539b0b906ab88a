use Rattle.std.proofs.Common.{◌≡◌, ◌≤◌, ◌+◌, ◌*◌, ◌^◌, drop}
use Rattle.sk_model.specs.Bounds.{lengths_of}
use Rattle.sk_sharp.proofs.lists.lengths_of.Given as goal

-- what was added, and what is left, is the whole
abbrev pub invariant-terms : goal.invariant-terms
invariant-terms l =
    (l.sum + lengths_of (drop l.term-index l.terms) l.docs.entries ≡ lengths_of l.terms l.docs.entries)
    × (l.sum ≤ l.term-index * 2 ^ 64)
