-- The word on pieces, computed.
use Rattle.std.proofs.Common.{◌≡◌, ℕ, List, [], ◌∷◌, length, refl}
use Rattle.sk_sorted.specs.Runs.{flat}

-- two pieces
abbrev two : List (List (ℕ × ℕ))
two = ((1, 7) ∷ (3, 8) ∷ []) ∷ ((4294967295, 9) ∷ []) ∷ []

-- their entries, and how many there are
entries : flat two ≡ (1, 7) ∷ (3, 8) ∷ (4294967295, 9) ∷ []
entries = refl

counted : length (flat two) ≡ 3
counted = refl
