-- The order of all terms: its first term that is not passed, and a new term in it.
use Rattle.std.proofs.Common.{◌≡◌, ◌≢◌, ◌⊎◌, ℕ, ◌+◌, ◌<◌, Bool, true, false, Option, MatchOption, List, [], ◌∷◌, ◌++◌, length, slice_get, sym, ap, subst, ◌∙◌, refl, inl, inr, arith}
use Rattle.std.specs.List.{concat}
use Rattle.std.specs.Ordering.{ordering_reverse}
use Rattle.std.specs.FinMap.{slice_cmp-IsAntisymmetric, nat_cmp-IsAntisymmetric}
use Rattle.std.specs.declared.cmp.Ordering.{Ordering}
use Rattle.std.specs.declared.cmp.Ordering.TheVariants.{Less, Equal, Greater}
use Rattle.std.proofs.lemmas.Bool.{cases_lt}
use Rattle.std.proofs.lemmas.Cmp.{nat_list_cmp_total, tied_itself}
use Rattle.std.proofs.lemmas.List.{get_or_push, get_or_append_left, length_push, get_or_default, append_assoc, append_cancel_right}
use Rattle.std.proofs.lemmas.List.Quantifiers.{all_pairs_push}
use Rattle.sk_dict.specs.Terms.{term_at, term_cmp, Precedes}
use Rattle.sk_dict.specs.Searches.{passed, passes, IsFirst, AllPassed}
use Rattle.sk_dict.specs.Order.{Each, IsIn, IsKnown, IsRising, IsOrder, IsSplit, IsPutIn}
use Rattle.sk_dict.specs.Blocks.{front_of, rest_from, IsStep}
use Rattle.sk_dict.proofs.EachLemmas.{Each-append, Each-front, Each-rest, Each-map, Each-both, Each-in, IsIn-put, IsIn-keep}
use Rattle.sk_dict.proofs.RisingLemmas.{IsRising-rest, IsRising-put, front_passes}
use Rattle.sk_dict.proofs.BlockLemmas.{order_at}

-- a term that stands behind another, from the other side
pub turned : (a b : List ℕ) → term_cmp a b ≡ Less → term_cmp b a ≡ Greater
turned a b e = nat_list_cmp_total.antisymm b a ∙ ap ordering_reverse e

-- and back
pub turned_back : (a b : List ℕ) → term_cmp a b ≡ Greater → term_cmp b a ≡ Less
turned_back a b e = nat_list_cmp_total.antisymm b a ∙ ap ordering_reverse e

-- terms that stand at one place are one
pub same_term : (a b : List ℕ) → term_cmp a b ≡ Equal → a ≡ b
same_term = slice_cmp-IsAntisymmetric nat_cmp-IsAntisymmetric

-- where a number of two parts is
IsIn-parts : (xs ys : List ℕ) (n : ℕ) → IsIn n (xs ++ ys) → IsIn n xs ⊎ IsIn n ys
IsIn-parts [] ys n i = inr i
IsIn-parts (x ∷ xs) ys n (inl s) = inl (inl s)
IsIn-parts (x ∷ xs) ys n (inr i) = elim (IsIn-parts xs ys n i) [ inl j ↦ inl (inr j) | inr j ↦ inr j ]

module _ (terms : List (List ℕ)) (order front : List ℕ) (key : List ℕ) (behind : Bool) (o : IsOrder terms order) where
  -- nothing is left, so all are passed
  none_left : IsSplit (passes terms key behind) order front [] → AllPassed terms key behind
  none_left s m there = Each-in (λ n. passes terms key behind n ≡ true) order m (o.all m there)
      (subst (Each (λ n. passes terms key behind n ≡ true)) (sym s.whole) (Each-append (λ n. passes terms key behind n ≡ true) front [] s.passed tt))

  -- another number that is not passed stands behind the first that is left
  other_left : (n : ℕ) (ns : List ℕ) → IsSplit (passes terms key behind) order front (n ∷ ns) → (m : ℕ) → passes terms key behind m ≡ false → m ≢ n
      → IsIn m front ⊎ IsIn m (n ∷ ns) → Precedes (term_at terms n) (term_at terms m)
  other_left n ns s m left ne (inl i) =
      let p : passes terms key behind m ≡ true = Each-in (λ n. passes terms key behind n ≡ true) front m i s.passed in
      cc
  other_left n ns s m left ne (inr (inl e)) = absurd (ne e)
  other_left n ns s m left ne (inr (inr i)) =
      let r : IsRising terms (n ∷ ns) = IsRising-rest terms front (n ∷ ns) (subst (IsRising terms) s.whole o.rising) in
      Each-in (λ m. Precedes (term_at terms n) (term_at terms m)) ns m i r.0

  -- the first that is left is the first term that is not passed
  some_left : (n : ℕ) (ns : List ℕ) → IsSplit (passes terms key behind) order front (n ∷ ns) → IsFirst terms key behind n
  some_left n ns s =
      let known : Each (IsKnown terms) (n ∷ ns) = Each-rest (IsKnown terms) front (n ∷ ns) (subst (Each (IsKnown terms)) s.whole o.known) in
      record {
        there = known.0;
        reached = s.left.0;
        first = λ m there left ne. other_left n ns s m left ne (IsIn-parts front (n ∷ ns) m (subst (IsIn m) s.whole (o.all m there)));
      }

  -- both
  pub first_left : (rest : List ℕ) → IsSplit (passes terms key behind) order front rest
      → MatchOption (slice_get rest 0) (AllPassed terms key behind) (λ n. IsFirst terms key behind n)
  first_left [] s = none_left s
  first_left (n ∷ ns) s = some_left n ns s

-- the same of what was read at a place among the blocks
pub first_found : (now terms : List (List ℕ)) (blocks seen again : List (List ℕ)) (key : List ℕ) (behind : Bool) (b offset : ℕ) (r : Option ℕ)
    → terms ≡ now → seen ≡ blocks → again ≡ blocks → IsOrder terms (concat blocks)
    → IsSplit (passes terms key behind) (concat seen) (front_of seen b offset) (rest_from seen b offset) → r ≡ slice_get (rest_from again b offset) 0
    → MatchOption r (AllPassed now key behind) (λ n. IsFirst now key behind n)
first_found now terms blocks seen again key behind b offset r is same_seen same_again o s e =
    let whole : IsOrder now (concat seen) = subst (λ w. IsOrder now (concat w)) (sym same_seen) (subst (λ w. IsOrder w (concat blocks)) is o) in
    let split : IsSplit (passes now key behind) (concat seen) (front_of seen b offset) (rest_from seen b offset) =
    subst (λ w. IsSplit (passes w key behind) (concat seen) (front_of seen b offset) (rest_from seen b offset)) is s in
    let found : r ≡ slice_get (rest_from seen b offset) 0 = e ∙ ap (λ w. slice_get (rest_from w b offset) 0) (same_again ∙ sym same_seen) in
    subst (λ w. MatchOption w (AllPassed now key behind) (λ n. IsFirst now key behind n)) (sym found)
    (first_left now (concat seen) (front_of seen b offset) key behind whole (rest_from seen b offset) split)

-- behind a number stands what its term does not pass
pub behind_splits : (terms blocks : List (List ℕ)) (b offset n a c : ℕ) → b < length blocks → IsRising terms (concat blocks) → IsStep blocks b offset n a c
    → IsSplit (passes terms (term_at terms n) true) (concat blocks) (front_of blocks a c) (rest_from blocks a c)
behind_splits terms blocks b offset n a c there rising s =
    let front : List ℕ = front_of blocks b offset in
    let rest : List ℕ = rest_from blocks a c in
    let test : ℕ → Bool = passes terms (term_at terms n) true in
    let whole : concat blocks ≡ front ++ n ∷ rest = order_at blocks b offset there ∙ ap (λ (ns : List ℕ). front ++ ns) s.rest in
    let rises : IsRising terms (front ++ n ∷ rest) = subst (IsRising terms) whole rising in
    let itself : test n ≡ true = ap (passed true) (tied_itself nat_list_cmp_total (term_at terms n)) in
    let same : front_of blocks a c ≡ front ++ n ∷ [] =
    append_cancel_right (front_of blocks a c) (front ++ n ∷ []) rest (sym (order_at blocks a c s.there) ∙ whole ∙ sym (append_assoc front (n ∷ []) rest)) in
    record {
      whole = order_at blocks a c s.there;
      passed = subst (Each (λ m. test m ≡ true)) (sym same)
          (Each-append (λ m. test m ≡ true) front (n ∷ []) (front_passes terms (term_at terms n) true front rest n rises itself) (itself, tt));
      left = Each-map (λ m. Precedes (term_at terms n) (term_at terms m)) (λ m. test m ≡ false) rest
          (λ m p. ap (passed true) (turned (term_at terms n) (term_at terms m) p)) (IsRising-rest terms front (n ∷ rest) rises).0;
    }

-- there are no blocks
pub none_found : (now terms : List (List ℕ)) (blocks : List (List ℕ)) (key : List ℕ) (behind : Bool) → terms ≡ now → length blocks ≡ 0 → IsOrder terms (concat blocks)
    → AllPassed now key behind
none_found now terms [] key behind is none o m there = absurd (o.all m (subst (λ w. m < length w) (sym is) there))
none_found now terms (b ∷ bs) key behind is none o m there = absurd (omega (arith, none))

-- a term that is passed, where what is wanted does not stand behind the key
before_key : (o : Ordering) → passed false o ≡ true → o ≡ Less
before_key Less e = refl
before_key Equal e = cc
before_key Greater e = cc

-- one that is not, and is not the key
behind_key : (a key : List ℕ) (o : Ordering) → term_cmp a key ≡ o → passed false o ≡ false → a ≢ key → Precedes key a
behind_key a key Less e h ne = cc
behind_key a key Equal e h ne = absurd (ne (same_term a key e))
behind_key a key Greater e h ne = turned_back a key e

-- a number below the next one is below, or the last
below_next : (n k : ℕ) → n < k + 1 → (n < k) ⊎ (n ≡ k)
below_next n k lt = elim (cases_lt n k) [ inl below ↦ inl below | inr le ↦ inr (omega arith) ]

module _ (terms : List (List ℕ)) (key : List ℕ) where
  -- a term keeps its number when another comes
  kept_at : (n : ℕ) → n < length terms → term_at (terms ++ key ∷ []) n ≡ term_at terms n
  kept_at n lt = get_or_append_left terms (key ∷ []) [] n lt

  -- the new term has the next number
  new_at : term_at (terms ++ key ∷ []) (length terms) ≡ key
  new_at = get_or_push terms key [] (length terms) refl

  -- what rises still rises
  pub IsRising-kept : (order : List ℕ) → Each (IsKnown terms) order → IsRising terms order → IsRising (terms ++ key ∷ []) order
  IsRising-kept [] k r = tt
  IsRising-kept (n ∷ ns) k r = (
    Each-both (IsKnown terms) (λ m. Precedes (term_at terms n) (term_at terms m)) (λ m. Precedes (term_at (terms ++ key ∷ []) n) (term_at (terms ++ key ∷ []) m)) ns
        (λ m lt p. ap (λ w. term_cmp w (term_at (terms ++ key ∷ []) m)) (kept_at n k.0) ∙ ap (term_cmp (term_at terms n)) (kept_at m lt) ∙ p) k.1 r.0,
    IsRising-kept ns k.1 r.1,
  )

  -- a number below the next one is an old one, or the last
  old_or_next : (order new front rest : List ℕ) → ((n : ℕ) → n < length terms → IsIn n order) → order ≡ front ++ rest → new ≡ front ++ length terms ∷ rest
      → (n : ℕ) → (n < length terms) ⊎ (n ≡ length terms) → IsIn n new
  old_or_next order new front rest all whole is n (inl lt) = subst (IsIn n) (sym is) (IsIn-keep front rest (length terms) n (subst (IsIn n) whole (all n lt)))
  old_or_next order new front rest all whole is n (inr e) = subst (IsIn n) (sym is) (subst (λ k. IsIn k (front ++ length terms ∷ rest)) (sym e) (IsIn-put front rest (length terms)))

  -- numbers that have a term still have one
  pub known_kept : (order : List ℕ) → Each (IsKnown terms) order → Each (IsKnown (terms ++ key ∷ [])) order
  known_kept order k =
      let more : length (terms ++ key ∷ []) ≡ length terms + 1 = length_push terms key in
      Each-map (IsKnown terms) (IsKnown (terms ++ key ∷ [])) order (λ n lt. omega (arith, lt, more)) k

  -- the order with a new term, by where it was put among the old ones
  pub IsOrder-put : (order new : List ℕ) → IsOrder terms order → ((n : ℕ) → n < length terms → term_at terms n ≢ key)
      → IsPutIn (passes (terms ++ key ∷ []) key false) (length terms) order new → IsOrder (terms ++ key ∷ []) new
  IsOrder-put order new o absent p =
      let all : List (List ℕ) = terms ++ key ∷ [] in
      let known : Each (IsKnown terms) (p.front ++ p.rest) = subst (Each (IsKnown terms)) p.split.whole o.known in
      let more : length all ≡ length terms + 1 = length_push terms key in
      let known_more : Each (IsKnown all) (p.front ++ p.rest) = known_kept (p.front ++ p.rest) known in
      let rises : IsRising all (p.front ++ p.rest) = IsRising-kept (p.front ++ p.rest) known (subst (IsRising terms) p.split.whole o.rising) in
      record {
        rising = subst (IsRising all) (sym p.is) (IsRising-put all p.front p.rest (length terms) rises
            (Each-map (λ m. passes all key false m ≡ true) (λ m. Precedes (term_at all m) (term_at all (length terms))) p.front
            (λ m h. ap (term_cmp (term_at all m)) new_at ∙ before_key (term_cmp (term_at all m) key) h) p.split.passed)
            (Each-both (IsKnown terms) (λ m. passes all key false m ≡ false) (λ m. Precedes (term_at all (length terms)) (term_at all m)) p.rest
            (λ m lt h. ap (λ w. term_cmp w (term_at all m)) new_at
            ∙ behind_key (term_at all m) key (term_cmp (term_at all m) key) refl h (λ e. absent m lt (sym (kept_at m lt) ∙ e)))
            (Each-rest (IsKnown terms) p.front p.rest known) p.split.left));
        known = subst (Each (IsKnown all)) (sym p.is) (Each-append (IsKnown all) p.front (length terms ∷ p.rest)
            (Each-front (IsKnown all) p.front p.rest known_more) (omega (arith, more), Each-rest (IsKnown all) p.front p.rest known_more));
        all = λ n lt. old_or_next order new p.front p.rest o.all p.split.whole p.is n (below_next n (length terms) (omega (arith, lt, more)));
        different = all_pairs_push (λ s t. s ≢ t) terms key o.different (λ k d lt. subst (λ w. w ≢ key) (get_or_default terms k [] d lt) (absent k lt));
      }
