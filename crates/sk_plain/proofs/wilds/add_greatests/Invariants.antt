use Rattle.std.proofs.Common.{◌≡◌, ◌≤◌, ◌+◌, ◌-◌, ◌^◌, min, drop}
use Rattle.sk_base.specs.Numbers.{greatest_of}
use Rattle.sk_plain.specs.Wilds.{new_sum}
use Rattle.sk_plain.proofs.wilds.add_greatests.Given as goal

-- what was added, and what is left, is the whole
abbrev pub invariant-terms : goal.invariant-terms
invariant-terms l =
    (min (2 ^ 29 - 1) (l.sum + new_sum (λ t. greatest_of t l.docs.entries) l.prefix l.behind (drop l.one-index l.terms))
    ≡ min (2 ^ 29 - 1) (l.fn.sum + new_sum (λ t. greatest_of t l.docs.entries) l.prefix l.behind l.terms))
    × (l.sum ≤ 2 ^ 29 - 1)
