-- The postings of one term: who has it, and how often.
use Rattle.std.specs.Prelude.{ℕ, Bool, false, List, [], ◌∷◌, nat_lt, max}

-- The entries of a list, each an id and the wdf there.
abbrev pub Postings : Type 0
Postings = List (ℕ × ℕ)

-- The greatest wdf, 0 where there is none.
abbrev pub greatest_wdf : Postings → ℕ
greatest_wdf [] = 0
greatest_wdf (p ∷ ps) = max p.1 (greatest_wdf ps)

-- The first entry's wdf, 0 where there is none.
abbrev pub first_wdf : Postings → ℕ
first_wdf [] = 0
first_wdf (p ∷ ps) = p.1

-- Whether the first entry's id is below the target.
abbrev pub is_below : ℕ → Postings → Bool
is_below target [] = false
is_below target (p ∷ ps) = nat_lt p.0 target
