-- Where a search by halves among the terms of a document has come, and what is found there.
use Rattle.std.proofs.Common.{◌≡◌, ◌≢◌, ℕ, zero, suc, ◌+◌, ◌<◌, ◌≤◌, Bool, true, false, if◌then◌else◌, List, [], ◌∷◌, ◌++◌, length, map, take, get_or, bytes_eq, inl, inr, refl, sym, ap, subst, ◌∙◌, arith}
use Rattle.std.proofs.Math.ListN.{set}
use mathlib.Core.Bool.{true≢false}
use Rattle.std.specs.List.{AllPairs}
use Rattle.std.specs.Ordering.{is_lt}
use Rattle.std.specs.Cmp.Lexicographic.{nat_list_cmp_total}
use Rattle.std.proofs.lemmas.Bool.{cases_lt, cases_order}
use Rattle.std.proofs.lemmas.List.{get_or_default, get_or_past, length-map, map-append, take_more, take_more_set}
use Rattle.std.proofs.lemmas.Slice.Eq.{bytes_eq-Decides}
use Rattle.sk_base.specs.declared.doc_entry.DocTerm.{DocTerm}
use Rattle.sk_base.specs.Order.{Precedes}
use Rattle.sk_base.specs.Documents.{AreTerms, positions_of}
use Rattle.sk_dict.specs.Terms.{term_at, term_cmp}
use Rattle.sk_packed.specs.Packed.{NumberedTerm, no_term, numbered_at, positions_at_place, AreKnown}
use Rattle.sk_terms.specs.Named.{with_its_text, named_all}
use Rattle.sk_terms.proofs.ListedLemmas.{Precedes-irrefl}
use Rattle.sk_terms.proofs.NamedLemmas.{known_at, named_at}
use Rattle.sk_terms.proofs.WalkLemmas.{less_is}
use Rattle.sk_index.specs.declared.places.TermPlace.{TermPlace}
use Rattle.sk_index.specs.Placed.{IsBetween}

module _ (t : List ℕ) (terms : List DocTerm) (rising : AreTerms terms) where
  -- the term in the middle stands before it
  pub halved_low : (low middle high : ℕ) (e : DocTerm) → e ≡ get_or terms middle e → IsBetween t terms low high → middle < high → is_lt (term_cmp e.term t) ≡ true
      → IsBetween t terms (middle + 1) high
  halved_low low middle high e is h lt less = record {
    some = omega arith;
    within = h.within;
    before = λ k d below. elim (cases_lt k middle) [
      | inl under ↦ nat_list_cmp_total.trans (get_or terms k d).term (get_or terms middle d).term t (rising k middle d under there) (here d)
      | inr from ↦ let same : k ≡ middle = omega arith in subst (λ i. Precedes (get_or terms i d).term t) (sym same) (here d)
    ];
    behind = h.behind;
  }
    where
      there : middle < length terms
      there = omega (arith, h.within)

      here : (d : DocTerm) → Precedes (get_or terms middle d).term t
      here d = subst (λ (one : DocTerm). Precedes one.term t) (is ∙ get_or_default terms middle e d there) (less_is (term_cmp e.term t) less)

  -- it does not
  pub halved_high : (low middle high : ℕ) (e : DocTerm) → e ≡ get_or terms middle e → IsBetween t terms low high → low ≤ middle → middle < high → is_lt (term_cmp e.term t) ≡ false
      → IsBetween t terms low middle
  halved_high low middle high e is h le lt less = record {
    some = le;
    within = omega arith;
    before = h.before;
    behind = λ k d from within p. elim (cases_lt middle k) [
      | inl above ↦ here d (nat_list_cmp_total.trans (get_or terms middle d).term (get_or terms k d).term t (rising middle k d above within) p)
      | inr to ↦ let same : k ≡ middle = omega arith in here d (subst (λ i. Precedes (get_or terms i d).term t) same p)
    ];
  }
    where
      there : middle < length terms
      there = omega (arith, h.within)

      here : (d : DocTerm) → Precedes (get_or terms middle d).term t → ⊥
      here d p =
          let before : Precedes e.term t = subst (λ (one : DocTerm). Precedes one.term t) (get_or_default terms middle d e there ∙ sym is) p in
          true≢false (sym (ap is_lt before) ∙ less)

-- a term that is none of these has no positions
positions-none : (t : List ℕ) (xs : List DocTerm) → ((k : ℕ) (d : DocTerm) → k < length xs → (get_or xs k d).term ≡ t → ⊥) → positions_of t xs ≡ []
positions-none t [] apart = refl
positions-none t (x ∷ xs) apart = by (bytes_eq x.term t) refl (positions-none t xs (λ k d lt. apart (suc k) d (omega arith)))
  where
    by : (b : Bool) → bytes_eq x.term t ≡ b → positions_of t xs ≡ [] → (if b then x.positions else positions_of t xs) ≡ []
    by true e rest = absurd (apart 0 x (omega arith) ((bytes_eq-Decides x.term t).0 e))
    by false e rest = rest

-- a term that is none of these but that at one place
positions-at : (t : List ℕ) (xs : List DocTerm) (n : ℕ) (e : DocTerm) → ((k : ℕ) (d : DocTerm) → k < n → (get_or xs k d).term ≡ t → ⊥)
    → ((k : ℕ) (d : DocTerm) → n < k → k < length xs → (get_or xs k d).term ≡ t → ⊥) → n < length xs
    → positions_of t xs ≡ (if bytes_eq (get_or xs n e).term t then (get_or xs n e).positions else [])
positions-at t [] n e before behind lt = absurd (omega arith)
positions-at t (x ∷ xs) zero e before behind lt =
    ap (λ (ps : List ℕ). if bytes_eq x.term t then x.positions else ps) (positions-none t xs (λ k d below. behind (suc k) d (omega arith) (omega arith)))
positions-at t (x ∷ xs) (suc n) e before behind lt =
    by (bytes_eq x.term t) refl ∙ positions-at t xs n e (λ k d below. before (suc k) d (omega arith)) (λ k d above within. behind (suc k) d (omega arith) (omega arith)) (omega arith)
  where
    by : (b : Bool) → bytes_eq x.term t ≡ b → (if b then x.positions else positions_of t xs) ≡ positions_of t xs
    by true same = absurd (before 0 x (omega arith) ((bytes_eq-Decides x.term t).0 same))
    by false same = refl

-- one that stands before is another
before_apart : (a t : List ℕ) → Precedes a t → a ≡ t → ⊥
before_apart a t p same = Precedes-irrefl t (subst (λ w. Precedes w t) same p)

-- what stands at the place that was found, if it is the term
pub positions_found : (t : List ℕ) (terms : List DocTerm) (n : ℕ) (e : DocTerm) → e ≡ get_or terms n e → AreTerms terms → IsBetween t terms n n → n < length terms
    → positions_of t terms ≡ (if bytes_eq e.term t then e.positions else [])
positions_found t terms n e is rising h lt =
    positions-at t terms n e (λ k d below. before_apart (get_or terms k d).term t (h.before k d below))
    (λ k d above within same. h.behind n d (omega arith) lt (subst (Precedes (get_or terms n d).term) same (rising n k d above within))) lt
    ∙ ap (λ (one : DocTerm). if bytes_eq one.term t then one.positions else []) (sym is)

-- nothing stands there
pub positions_past : (t : List ℕ) (terms : List DocTerm) (n : ℕ) → IsBetween t terms n n → length terms ≤ n → positions_of t terms ≡ []
positions_past t terms n h le = positions-none t terms (λ k d lt. before_apart (get_or terms k d).term t (h.before k d (omega arith)))

-- the term stands at this place
positions_there : (t : List ℕ) (terms : List DocTerm) (n : ℕ) (e : DocTerm) → e ≡ get_or terms n e → AreTerms terms → n < length terms → e.term ≡ t → positions_of t terms ≡ e.positions
positions_there t terms n e is rising lt same =
    positions-at t terms n e (λ k d below. before_apart (get_or terms k d).term t (subst (Precedes (get_or terms k d).term) (here d) (rising k n d below lt)))
    (λ k d above within other. before_apart (get_or terms n d).term t (subst (Precedes (get_or terms n d).term) other (rising n k d above within)) (here d)) lt
    ∙ ap (λ (one : DocTerm). if bytes_eq one.term t then one.positions else []) (sym is)
    ∙ ap (λ b. if b then e.positions else []) ((bytes_eq-Decides e.term t).1 same)
  where
    here : (d : DocTerm) → (get_or terms n d).term ≡ t
    here d = ap (λ (one : DocTerm). one.term) (sym (is ∙ get_or_default terms n e d lt)) ∙ same

-- nothing stands behind all terms
pub positions-past : (packed : List NumberedTerm) (place : ℕ) → length packed ≤ place → positions_at_place packed place ≡ []
positions-past packed place le = ap (λ (one : NumberedTerm). one.positions) (get_or_past packed place no_term le)

-- different numbers have different terms
number-same : (dict : List (List ℕ)) (m n : ℕ) → AllPairs (λ s t. s ≢ t) dict → m < length dict → n < length dict → term_at dict m ≡ term_at dict n → m ≡ n
number-same dict m n different low high same = elim (cases_order m n) as (λ _. m ≡ n) [
  | inl is ↦ is
  | inr apart ↦ elim apart as (λ _. m ≡ n) [
    | inl before ↦ absurd (different m n [] before high same)
    | inr behind ↦ absurd (different n m [] behind low (sym same))
  ]
]

-- the place that the number has, or one behind all terms
pub positions_numbered : (dict : List (List ℕ)) (packed : List NumberedTerm) (n place : ℕ) → AllPairs (λ s t. s ≢ t) dict → AreKnown (length dict) packed → AreTerms (named_all dict packed) → n < length dict
    → place ≤ length packed → (place ≡ length packed → (k : ℕ) → k < length packed → (numbered_at packed k).number ≢ n) → (place < length packed → (numbered_at packed place).number ≡ n)
    → positions_at_place packed place ≡ positions_of (term_at dict n) (named_all dict packed)
positions_numbered dict packed n place different known rising there within none found =
    elim (cases_lt place (length packed)) as (λ _. positions_at_place packed place ≡ positions_of (term_at dict n) (named_all dict packed)) [
      | inl lt ↦
          let e : DocTerm = with_its_text dict (numbered_at packed place) in
          sym (positions_there (term_at dict n) (named_all dict packed) place e (named_at dict packed place e lt) rising (omega (arith, lt, size)) (ap (term_at dict) (found lt)))
      | inr le ↦ positions-past packed place le ∙ sym (positions-none (term_at dict n) (named_all dict packed) (λ k d lt. other (omega (arith, within, le)) k d (omega (arith, lt, size))))
    ]
  where
    size : length (named_all dict packed) ≡ length packed
    size = length-map packed (with_its_text dict)

    other : place ≡ length packed → (k : ℕ) (d : DocTerm) → k < length packed → (get_or (named_all dict packed) k d).term ≡ term_at dict n → ⊥
    other end k d lt same =
        none end k lt (number-same dict (numbered_at packed k).number n different (known_at (length dict) packed k known lt) there (ap (λ (one : DocTerm). one.term) (named_at dict packed k d lt) ∙ same))

-- one number more was looked up
pub looked_up : (f : TermPlace → List ℕ) (g : ℕ → List ℕ) (places : List TermPlace) (numbers : List ℕ) (i : ℕ) (place : TermPlace) (d : ℕ) → i < length places → i < length numbers → f place ≡ g (get_or numbers i d) → map f (take i places) ≡ map g (take i numbers)
    → map f (take (i + 1) (set places i place)) ≡ map g (take (i + 1) numbers)
looked_up f g places numbers i place d room there same before =
    ap (map f) (take_more_set places i place room) ∙ map-append f (take i places) (place ∷ []) ∙ (λ k. before k ++ same k ∷ []) ∙ sym (map-append g (take i numbers) (get_or numbers i d ∷ []))
    ∙ sym (ap (map g) (take_more numbers i d there))
