-- What a search for a key passes, and where it stops.
use Rattle.std.specs.Prelude.{◌≡◌, ◌≢◌, ◌<◌, ℕ, Bool, true, false, Option, None, Some, List, length}
use Rattle.std.specs.declared.cmp.Ordering.{Ordering}
use Rattle.std.specs.declared.cmp.Ordering.TheVariants.{Less, Equal, Greater}
use Rattle.sk_dict.specs.Terms.{term_at, term_cmp, Precedes}

-- The term stands before the key, or at the key where what is wanted stands behind it.
abbrev pub passed : Bool → Ordering → Bool
passed behind Less = true
passed behind Equal = behind
passed behind Greater = false

-- The same of a term and a key.
abbrev pub stands_before : List ℕ → Bool → List ℕ → Bool
stands_before key behind term = passed behind (term_cmp term key)

-- The same of the term with the number n.
abbrev pub passes : List (List ℕ) → List ℕ → Bool → ℕ → Bool
passes terms key behind n = stands_before key behind (term_at terms n)

-- The first term that is not passed.
pub record IsFirst (terms : List (List ℕ)) (key : List ℕ) (behind : Bool) (n : ℕ) : Type 0 where
  pub there : n < length terms
  pub reached : stands_before key behind (term_at terms n) ≡ false
  pub first : (m : ℕ) → m < length terms → stands_before key behind (term_at terms m) ≡ false → m ≢ n → Precedes (term_at terms n) (term_at terms m)

-- All terms are passed.
abbrev pub AllPassed : List (List ℕ) → List ℕ → Bool → Type 0
AllPassed terms key behind = (m : ℕ) → m < length terms → stands_before key behind (term_at terms m) ≡ true

-- Where the walk over a prefix goes on: at the prefix, or at the term after which it stands.
abbrev pub start_of : List (List ℕ) → List ℕ → Option ℕ → List ℕ
start_of terms prefix None = prefix
start_of terms prefix (Some a) = term_at terms a
