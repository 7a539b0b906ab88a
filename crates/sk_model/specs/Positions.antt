-- When words stand near to each other, and when they stand as a phrase.
-- Source: Xapian's API documentation (`OP_NEAR`, `OP_PHRASE`). That the positions of near may coincide is own.
use Rattle.std.specs.Prelude.{ℕ, ◌-◌, ◌&&◌, max, min, nat_lt, Bool, false, List, [], ◌∷◌}
use Rattle.std.specs.List.{list_any}

-- There are further positions, one for each operand, so that of all the greatest less the least lies below the window; so far they lie between these two.
abbrev pub near_from : ℕ → ℕ → ℕ → List (List ℕ) → Bool
near_from window least most [] = nat_lt (most - least) window
near_from window least most (positions ∷ more) = list_any (λ p. near_from window (min least p) (max most p) more) positions

-- There is one position for each operand, with the greatest less the least below the window. They may coincide, and stand in any order.
abbrev pub is_near : ℕ → List (List ℕ) → Bool
is_near window [] = false
is_near window (positions ∷ more) = list_any (λ p. near_from window p p more) positions

-- There are further positions, one for each operand, each behind the one before, the last less the first below the window.
abbrev pub phrase_from : ℕ → ℕ → ℕ → List (List ℕ) → Bool
phrase_from window first last [] = nat_lt (last - first) window
phrase_from window first last (positions ∷ more) = list_any (λ p. nat_lt last p && phrase_from window first p more) positions

-- There is one position for each operand, strictly rising in their order, with the last less the first below the window.
abbrev pub is_phrase : ℕ → List (List ℕ) → Bool
is_phrase window [] = false
is_phrase window (positions ∷ more) = list_any (λ p. phrase_from window p p more) positions
