-- Terms that stand in one list of bytes, one behind the other.
use Rattle.std.specs.Prelude.{◌≡◌, ◌≤◌, ℕ, zero, suc, List, [], ◌∷◌, length, map, slice_range}
use Rattle.sk_dict.specs.Heads.{AreBytes, head_of}

-- The terms that end at these places; the first begins at the place `from`, each other one where the one before it ends.
abbrev pub cut : ℕ → List ℕ → List ℕ → List (List ℕ)
cut from [] bytes = []
cut from (e ∷ ends) bytes = slice_range bytes from e ∷ cut e ends bytes

-- Where the n-th of them begins; behind the last, where that one ends.
abbrev pub start_at : ℕ → List ℕ → ℕ → ℕ
start_at from [] n = from
start_at from (e ∷ ends) zero = from
start_at from (e ∷ ends) (suc n) = start_at e ends n

-- The places do not fall, and go from the one number to the other.
abbrev pub RiseTo : ℕ → List ℕ → ℕ → Type 0
RiseTo from [] to = from ≡ to
RiseTo from (e ∷ ends) to = (from ≤ e) × RiseTo e ends to

-- The terms fill the bytes, and these are their heads.
pub record IsPacked (bytes ends heads : List ℕ) : Type 0 where
  pub small : AreBytes bytes
  pub rise : RiseTo 0 ends (length bytes)
  pub heads_are : heads ≡ map head_of (cut 0 ends bytes)
