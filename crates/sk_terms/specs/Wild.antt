-- Sums over the terms that begin with a prefix.
use Rattle.std.specs.Prelude.{ℕ, ◌+◌, Bool, true, ◌&&◌, List, [], ◌∷◌, length, Option, Some, None, if◌then◌else◌}
use Rattle.std.specs.Ordering.{is_lt}
use Rattle.sk_dict.specs.Terms.{term_at, term_cmp, begins_with}
use Rattle.sk_chunks.specs.Postings.{Postings, greatest_wdf}
use Rattle.sk_terms.specs.declared.term_lists.Figure.{Figure}

-- A number of a list.
abbrev pub figure_of : Figure → Postings → ℕ
figure_of Figure.Length list = length list
figure_of Figure.Greatest list = greatest_wdf list

-- The sum of a number over these terms.
abbrev pub over : (List ℕ → ℕ) → List (List ℕ) → ℕ
over f [] = 0
over f (t ∷ ts) = f t + over f ts

-- The term stands behind the one with the number `after`, if one is given.
abbrev pub is_term_behind : List (List ℕ) → Option ℕ → List ℕ → Bool
is_term_behind terms None t = true
is_term_behind terms (Some a) t = is_lt (term_cmp (term_at terms a) t)

-- The number of a term that begins with the prefix and stands behind, and 0 of another.
abbrev pub share_behind : (List ℕ → ℕ) → List (List ℕ) → List ℕ → Option ℕ → List ℕ → ℕ
share_behind f terms prefix after t = if begins_with t prefix && is_term_behind terms after t then f t else 0

-- The sum over the terms that begin with the prefix and stand behind.
abbrev pub sum_behind : (List ℕ → ℕ) → List (List ℕ) → List ℕ → Option ℕ → ℕ
sum_behind f terms prefix after = over (share_behind f terms prefix after) terms
