-- The ids of those that have a term, in all parts.
use Rattle.std.specs.Prelude.{◌≤◌, ◌<◌, ◌+◌, ◌^◌, ℕ, List, [], ◌∷◌, ◌++◌, map, length, All}
use Rattle.sk_base.specs.Numbers.{Docs}
use Rattle.sk_documents.specs.Removing.{ids_with}
use Rattle.sk_sorted.specs.Joined.{joined_id}

-- One part after the other, under joined ids.
abbrev pub all_ids_with : List ℕ → ℕ → ℕ → List Docs → List ℕ
all_ids_with t n part [] = []
all_ids_with t n part (es ∷ parts) = map (joined_id n part) (ids_with t es) ++ all_ids_with t n (part + 1) parts

-- Each is an id, and so is the joined one.
abbrev pub AreIds : List ℕ → ℕ → ℕ → List Docs → Type 0
AreIds t n part [] = Unit {0}
AreIds t n part (es ∷ parts) = All (λ own. 1 ≤ own) (ids_with t es) × (All (λ own. joined_id n part own < 2 ^ 32) (ids_with t es) × AreIds t n (part + 1) parts)

-- How many documents there are in all parts.
abbrev pub total : List Docs → ℕ
total [] = 0
total (es ∷ parts) = length es + total parts
