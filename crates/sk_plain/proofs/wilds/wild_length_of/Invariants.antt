use Rattle.std.proofs.Common.{◌≡◌, ◌≤◌, ◌+◌, min, length}
use Rattle.sk_base.specs.Numbers.{length_of}
use Rattle.sk_plain.specs.Wilds.{wild_sum}
use Rattle.sk_plain.proofs.wilds.wild_length_of.Given as goal

-- what was added, and what is left, is the whole
abbrev pub invariant-docs : goal.invariant-docs
invariant-docs l =
    (min (length l.docs.entries) (l.sum + wild_sum (λ t. length_of t l.docs.entries) l.prefix l.left)
    ≡ min (length l.docs.entries) (wild_sum (λ t. length_of t l.docs.entries) l.prefix l.docs.entries))
    × (l.sum ≤ length l.docs.entries)
