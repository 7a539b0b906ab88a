use Rattle.std.proofs.Common.{◌≡◌, ◌≤◌, ◌+◌, ◌-◌, ◌^◌, min}
use Rattle.sk_base.specs.Numbers.{greatest_of}
use Rattle.sk_plain.specs.Wilds.{wild_sum}
use Rattle.sk_plain.proofs.wilds.wild_greatest_of.Given as goal

-- what was added, and what is left, is the whole
abbrev pub invariant-docs : goal.invariant-docs
invariant-docs l =
    (min (2 ^ 29 - 1) (l.sum + wild_sum (λ t. greatest_of t l.docs.entries) l.prefix l.left)
    ≡ min (2 ^ 29 - 1) (wild_sum (λ t. greatest_of t l.docs.entries) l.prefix l.docs.entries))
    × (l.sum ≤ 2 ^ 29 - 1)
