-- The order of the terms as a list of their numbers.
use Rattle.std.specs.Prelude.{◌≡◌, ◌≢◌, ◌<◌, ◌⊎◌, ℕ, Bool, true, false, List, [], ◌∷◌, ◌++◌, length}
use Rattle.std.specs.List.{AllPairs}
use Rattle.sk_dict.specs.Terms.{term_at, Precedes}

-- Each number of the list has the property.
abbrev pub Each : (ℕ → Type 0) → List ℕ → Type 0
Each P [] = Unit {0}
Each P (n ∷ ns) = P n × Each P ns

-- The number is in the list.
abbrev pub IsIn : ℕ → List ℕ → Type 0
IsIn n [] = ⊥
IsIn n (m ∷ ms) = (n ≡ m) ⊎ IsIn n ms

-- The number has a term.
abbrev pub IsKnown : List (List ℕ) → ℕ → Type 0
IsKnown terms n = n < length terms

-- The terms of the numbers rise.
abbrev pub IsRising : List (List ℕ) → List ℕ → Type 0
IsRising terms [] = Unit {0}
IsRising terms (n ∷ ns) = Each (λ m. Precedes (term_at terms n) (term_at terms m)) ns × IsRising terms ns

-- The numbers of all terms, so that the terms rise; no term comes twice.
pub record IsOrder (terms : List (List ℕ)) (order : List ℕ) : Type 0 where
  pub rising : IsRising terms order
  pub known : Each (IsKnown terms) order
  pub all : (n : ℕ) → n < length terms → IsIn n order
  pub different : AllPairs (λ s t. s ≢ t) terms

-- The order is what passes, and behind it what does not.
pub record IsSplit (test : ℕ → Bool) (order front rest : List ℕ) : Type 0 where
  pub whole : order ≡ front ++ rest
  pub passed : Each (λ n. test n ≡ true) front
  pub left : Each (λ n. test n ≡ false) rest

-- The number was put between what passes and what does not.
pub record IsPutIn (test : ℕ → Bool) (number : ℕ) (old new : List ℕ) : Type 0 where
  pub front : List ℕ
  pub rest : List ℕ
  pub split : IsSplit test old front rest
  pub is : new ≡ front ++ number ∷ rest
