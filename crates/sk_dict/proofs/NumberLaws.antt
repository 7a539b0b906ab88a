-- The number of a term: what it says, and what another term leaves.
use Rattle.std.proofs.Common.{◌≡◌, ◌≢◌, ℕ, ◌+◌, ◌<◌, ◌≤◌, Bool, true, false, cond, is_some, if◌then◌else◌, nat_lt, None, Some, List, [], ◌∷◌, ◌++◌, length, get_or, sym, ap, ◌∙◌, refl, arith}
use Rattle.std.specs.List.{AllPairs, position_or_len}
use Rattle.std.specs.Str.{bytes_eq}
use Rattle.std.proofs.lemmas.Bool.Decides.{nat_tests}
use Rattle.std.proofs.lemmas.List.{get_or_append_left, get_or_push, length_push}
use Rattle.std.proofs.lemmas.List.Sums.{position_or_len_is, fails_before_first}
use Rattle.std.proofs.lemmas.List.Quantifiers.{position-Some}
use Rattle.std.proofs.lemmas.Slice.Eq.{bytes_eq-Decides}
use Rattle.std.proofs.lemmas.Bool.{false_from_ne_true}
use Rattle.sk_dict.specs.Terms.{term_at, number_of, with_term}

module _ (terms : List (List ℕ)) (key : List ℕ) where
  -- whether a term is the key
  abbrev is_key : List ℕ → Bool
  is_key t = bytes_eq t key

  -- a term that is not the key
  other : (n : ℕ) → term_at terms n ≢ key → is_key (get_or terms n []) ≡ false
  other n ne = false_from_ne_true (is_key (get_or terms n [])) (λ h. ne ((bytes_eq-Decides (get_or terms n []) key).0 h))

  -- no term is the key
  pub number_of-absent : ((n : ℕ) → n < length terms → term_at terms n ≢ key) → number_of key terms ≡ None
  number_of-absent absent =
      let all : position_or_len is_key terms ≡ length terms = position_or_len_is is_key terms (length terms) [] (omega arith) (λ k lt. other k (absent k lt)) (λ lt. absurd (omega (arith, lt))) in
      let past : nat_lt (length terms) (length terms) ≡ false = grind (arith, nat_tests) in
      ap (λ k. cond (nat_lt k (length terms)) (Some k) None) all ∙ ap (λ b. cond b (Some (length terms)) None) past

  -- no number, so no term
  pub absent_from-number_of : number_of key terms ≡ None → (n : ℕ) → n < length terms → term_at terms n ≢ key
  absent_from-number_of none n lt same = numbered (nat_lt (position_or_len is_key terms) (length terms)) refl none
    where
      numbered : (b : Bool) → nat_lt (position_or_len is_key terms) (length terms) ≡ b → cond b (Some (position_or_len is_key terms)) None ≡ None → ⊥
      numbered true e h = cc
      numbered false e h =
          let le : length terms ≤ position_or_len is_key terms = grind (arith, nat_tests) in
          let no : is_key (get_or terms n []) ≡ false = fails_before_first is_key terms n [] (omega arith) in
          let yes : is_key (get_or terms n []) ≡ true = (bytes_eq-Decides (get_or terms n []) key).1 same in
          cc

  -- the number of the first term that is the key
  pub number_of-first : (n : ℕ) → n < length terms → term_at terms n ≡ key → ((k : ℕ) → k < n → term_at terms k ≢ key) → number_of key terms ≡ Some n
  number_of-first n lt same before =
      let at : position_or_len is_key terms ≡ n =
      position_or_len_is is_key terms n [] (omega arith) (λ k below. other k (before k below)) (λ _. (bytes_eq-Decides (get_or terms n []) key).1 same) in
      let there : nat_lt n (length terms) ≡ true = grind (arith, nat_tests) in
      ap (λ k. cond (nat_lt k (length terms)) (Some k) None) at ∙ ap (λ b. cond b (Some n) None) there

  -- the number of the term that is the key, where no two are the same
  pub number_of-there : AllPairs (λ s t. s ≢ t) terms → (n : ℕ) → n < length terms → term_at terms n ≡ key → number_of key terms ≡ Some n
  number_of-there different n lt same =
      number_of-first n lt same (λ k below e. different k n [] below lt (e ∙ sym same))

  -- a number that is found is the key's
  pub number_of-Some : (n : ℕ) → number_of key terms ≡ Some n → (n < length terms) × (term_at terms n ≡ key)
  number_of-Some n e = let h = position-Some is_key terms n [] e in (h.0, (bytes_eq-Decides (get_or terms n []) key).0 h.1)

  -- and no term before it is the key
  pub number_of-before : (n : ℕ) → number_of key terms ≡ Some n → (k : ℕ) → k < n → term_at terms k ≢ key
  number_of-before n e k lt same =
      let no : is_key (get_or terms k []) ≡ false = (position-Some is_key terms n [] e).2 k lt in
      let yes : is_key (get_or terms k []) ≡ true = (bytes_eq-Decides (get_or terms k []) key).1 same in
      cc

-- where no two terms are the same, each has its number
pub number_of-term_at : (terms : List (List ℕ)) (n : ℕ) → AllPairs (λ s t. s ≢ t) terms → n < length terms → number_of (term_at terms n) terms ≡ Some n
number_of-term_at terms n different lt = number_of-there terms (term_at terms n) different n lt refl

-- a term keeps its number when another is put last
pub number_of-push : (terms : List (List ℕ)) (key term : List ℕ) (n : ℕ) → number_of key terms ≡ Some n → number_of key (terms ++ term ∷ []) ≡ Some n
number_of-push terms key term n e =
    let h = number_of-Some terms key n e in
    let size : length (terms ++ term ∷ []) ≡ length terms + 1 = length_push terms term in
    let there : n < length terms = h.0 in
    number_of-first (terms ++ term ∷ []) key n (omega (arith, size)) (get_or_append_left terms (term ∷ []) [] n there ∙ h.1)
    (λ k lt same. number_of-before terms key n e k lt (sym (get_or_append_left terms (term ∷ []) [] k (omega arith)) ∙ same))

-- a new term has the next number
pub number_of-added : (terms : List (List ℕ)) (term : List ℕ) → number_of term terms ≡ None → number_of term (terms ++ term ∷ []) ≡ Some (length terms)
number_of-added terms term none =
    let size : length (terms ++ term ∷ []) ≡ length terms + 1 = length_push terms term in
    number_of-first (terms ++ term ∷ []) term (length terms) (omega (arith, size)) (get_or_push terms term [] (length terms) refl)
    (λ k lt same. absent_from-number_of terms term none k lt (sym (get_or_append_left terms (term ∷ []) [] k lt) ∙ same))

-- by whether the added term is there
kept_by : (terms : List (List ℕ)) (key term : List ℕ) (n : ℕ) (b : Bool) → number_of key terms ≡ Some n → number_of key (if b then terms else terms ++ term ∷ []) ≡ Some n
kept_by terms key term n true e = e
kept_by terms key term n false e = number_of-push terms key term n e

-- a term keeps its number when another is added
pub number_of-kept : (terms : List (List ℕ)) (key term : List ℕ) (n : ℕ) → number_of key terms ≡ Some n → number_of key (with_term term terms) ≡ Some n
number_of-kept terms key term n e = kept_by terms key term n (is_some (number_of term terms)) e

-- by whether the added term is there
term_by : (terms : List (List ℕ)) (term : List ℕ) (n : ℕ) (b : Bool) → n < length terms → term_at (if b then terms else terms ++ term ∷ []) n ≡ term_at terms n
term_by terms term n true lt = refl
term_by terms term n false lt = get_or_append_left terms (term ∷ []) [] n lt

-- a number keeps its term
pub term_at-kept : (terms : List (List ℕ)) (term : List ℕ) (n : ℕ) → n < length terms → term_at (with_term term terms) n ≡ term_at terms n
term_at-kept terms term n lt = term_by terms term n (is_some (number_of term terms)) lt
