use Rattle.std.proofs.Common.{◌≡◌, ◌≤◌, ◌+◌, min, drop, length}
use Rattle.sk_base.specs.Numbers.{length_of}
use Rattle.sk_plain.specs.Wilds.{new_sum}
use Rattle.sk_plain.proofs.wilds.add_lengths.Given as goal

-- what was added, and what is left, is the whole
abbrev pub invariant-terms : goal.invariant-terms
invariant-terms l =
    (min (length l.docs.entries) (l.sum + new_sum (λ t. length_of t l.docs.entries) l.prefix l.behind (drop l.one-index l.terms))
    ≡ min (length l.docs.entries) (l.fn.sum + new_sum (λ t. length_of t l.docs.entries) l.prefix l.behind l.terms))
    × (l.sum ≤ length l.docs.entries)
