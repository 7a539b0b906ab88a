-- Positions that are taken as soon as can be.
use Rattle.std.specs.Prelude.{◌≡◌, ℕ, ◌+◌, min, nat_lt, List, [], ◌∷◌, drop, slice_index_or, Option, None, Some, if◌then◌else◌}
use Rattle.std.specs.Option.{option_and_then}
use Rattle.sk_near.specs.declared.phrases.Taken.{Taken}

-- The lesser of a position and one that may be missing.
abbrev pub lesser : ℕ → Option ℕ → ℕ
lesser p None = p
lesser p (Some q) = min p q

-- The least position that is not below the bound.
abbrev pub first_from : ℕ → List ℕ → Option ℕ
first_from bound [] = None
first_from bound (p ∷ positions) = if nat_lt p bound then first_from bound positions else Some (lesser p (first_from bound positions))

-- One behind the last of positions that begin at the bound: the least of the first operand, and of each further one the least behind the one before. Of no operand it is the bound.
abbrev pub soonest_end : ℕ → List (List ℕ) → Option ℕ
soonest_end bound [] = Some bound
soonest_end bound (positions ∷ more) = option_and_then (λ p. soonest_end (p + 1) more) (first_from bound positions)

-- Operands from one on are taken, up to another that is none of them: the first has its least position, and all end where the others go on.
pub record AreTaken (bound : ℕ) (places : List (List ℕ)) (i run_end : ℕ) (taken : Taken) : Type 0 where
  pub first : first_from bound (slice_index_or places i []) ≡ Some taken.first
  pub rest : soonest_end bound (drop i places) ≡ soonest_end taken.end (drop run_end places)
