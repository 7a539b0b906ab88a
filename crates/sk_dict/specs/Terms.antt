-- Terms by their numbers, and their order.
use Rattle.std.specs.Prelude.{◌≡◌, ◌≢◌, ◌<◌, ℕ, Bool, true, Option, Some, IfSome, unwrap_or, is_some, List, [], ◌∷◌, ◌++◌, length, slice_index_or, nat_eq, if◌then◌else◌}
use Rattle.std.specs.List.{position, starts_with}
use Rattle.std.specs.Str.{bytes_eq}
use Rattle.std.specs.Ordering.{nat_cmp}
use Rattle.std.specs.Cmp.Lexicographic.{slice_cmp}
use Rattle.std.specs.declared.cmp.Ordering.{Ordering}
use Rattle.std.specs.declared.cmp.Ordering.TheVariants.{Less}

-- The term with this number.
abbrev pub term_at : List (List ℕ) → ℕ → List ℕ
term_at terms n = slice_index_or terms n []

-- The number of the term, none where it is not there.
abbrev pub number_of : List ℕ → List (List ℕ) → Option ℕ
number_of term terms = position (λ t. bytes_eq t term) terms

-- The number of the term, or the next number.
abbrev pub number_for : List ℕ → List (List ℕ) → ℕ
number_for term terms = unwrap_or (number_of term terms) (length terms)

-- The terms with this one, last where it is new.
abbrev pub with_term : List ℕ → List (List ℕ) → List (List ℕ)
with_term term terms = if is_some (number_of term terms) then terms else terms ++ term ∷ []

-- The order of the terms: byte by byte, and a term before those that it begins.
abbrev pub term_cmp : List ℕ → List ℕ → Ordering
term_cmp = slice_cmp nat_cmp

-- The first term stands before the second.
abbrev pub Precedes : List ℕ → List ℕ → Type 0
Precedes a b = term_cmp a b ≡ Less

-- The term begins with the prefix.
abbrev pub begins_with : List ℕ → List ℕ → Bool
begins_with term prefix = starts_with nat_eq term prefix

-- The term with the number m begins with the prefix, and stands behind the term with the number `after`, if one is given.
pub record IsFollower (terms : List (List ℕ)) (prefix : List ℕ) (after : Option ℕ) (m : ℕ) : Type 0 where
  pub there : m < length terms
  pub begins : begins_with (term_at terms m) prefix ≡ true
  pub behind : IfSome after (λ a. Precedes (term_at terms a) (term_at terms m))

-- It is one, and no other stands before it.
pub record IsNext (terms : List (List ℕ)) (prefix : List ℕ) (after : Option ℕ) (n : ℕ) : Type 0 where
  pub follows : IsFollower terms prefix after n
  pub first : (m : ℕ) → IsFollower terms prefix after m → m ≢ n → Precedes (term_at terms n) (term_at terms m)

-- None is one.
abbrev pub HasNoNext : List (List ℕ) → List ℕ → Option ℕ → Type 0
HasNoNext terms prefix after = (m : ℕ) → IsFollower terms prefix after m → ⊥

-- The numbers of all terms that begin with the prefix and stand behind, in order.
abbrev pub IsWalk : List (List ℕ) → List ℕ → Option ℕ → List ℕ → Type 0
IsWalk terms prefix after [] = HasNoNext terms prefix after
IsWalk terms prefix after (n ∷ ns) = IsNext terms prefix after n × IsWalk terms prefix (Some n) ns
