use Rattle.std.proofs.Common.{◌≡◌, ◌∷◌, map, drop}
use Rattle.sk_base.specs.Numbers.{length_of}
use Rattle.sk_model.specs.Bounds.{least_in}
use Rattle.sk_sharp.proofs.lists.least_length.Given as goal

-- the least so far, and those of the terms that are left
abbrev pub invariant-rest : goal.invariant-rest
invariant-rest l =
    least_in (l.least ∷ map (λ t. length_of t l.docs.entries) (drop l.term-index l.rest))
    ≡ least_in (l.initial.least ∷ map (λ t. length_of t l.docs.entries) l.rest)
