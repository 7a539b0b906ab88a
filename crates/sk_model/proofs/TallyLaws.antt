-- What is counted of values is there, one value after the other; and of what is only sorted in front the front stands first.
use Rattle.std.proofs.Common.{◌≡◌, ◌<◌, ◌≤◌, ◌+◌, ℕ, zero, suc, true, false, cond, ◌||◌, ◌==◌, List, [], ◌∷◌, ◌++◌, length, get_or, bytes_eq, All, IsPermutation, refl, sym, ap, ◌∙◌, subst, arith, true≢false}
use Rattle.std.proofs.lemmas.Bool.Decides.{nat_tests}
use Rattle.std.proofs.lemmas.List.Elements.{All-head, All-tail, All-cons, All-nil, All-append}
use Rattle.std.proofs.lemmas.List.Sorted.{sorted_far, All-permutation, IsPermutation-refl, IsPermutation-cons, IsPermutation-swap, IsPermutation-trans, IsPermutation-append}
use Rattle.std.proofs.lemmas.List.Sums.{sum_by-cons}
use Rattle.std.specs.Cmp.Lexicographic.{bytes_decides}
use Rattle.std.specs.List.{list_any}
use Rattle.std.specs.List.Sorted.{IsSortedBy, IsSplitAroundBy}
use Rattle.sk_base.specs.declared.facets.Facet.{Facet}
use Rattle.sk_model.specs.Facets.{times, AreCounted}
use Rattle.sk_model.specs.Laws.{AreTallied}
use Rattle.sk_model.specs.Counting.{raised, with_one, tally, is_first, placed, in_order, counted}
use Rattle.sk_model.proofs.FacetLaws.{first_order, bit, held, held-cons, one_itself, some_held, IsOf, not_none, tallied_permuted, counted_in_order}

times-cons : (w v : List ℕ) (vs : List (List ℕ)) → times w (v ∷ vs) ≡ bit (bytes_eq w v) + times w vs
times-cons w v vs = sum_by-cons (λ u. cond (bytes_eq w u) 1 0) v vs

-- ---- one value more

held_some : (v : List ℕ) (fs : List Facet) → 0 < held v fs → list_any (λ f. bytes_eq f.value v) fs ≡ true
held_some v [] h = absurd (omega (arith, h))
held_some v (f ∷ fs) h =
    elim (bytes_eq f.value v) as (λ r. bytes_eq f.value v ≡ r → (r || list_any (λ f. bytes_eq f.value v) fs) ≡ true) [
      | true ↦ λ e. refl
      | false ↦ λ e. held_some v fs (omega (arith, h, held-cons v f fs, ap bit e))
    ] refl

pub none_held : (v : List ℕ) (fs : List Facet) → list_any (λ f. bytes_eq f.value v) fs ≡ false → held v fs ≡ 0
none_held v [] h = refl
none_held v (f ∷ fs) h =
    elim (bytes_eq f.value v) as (λ r. bytes_eq f.value v ≡ r → (r || list_any (λ f. bytes_eq f.value v) fs) ≡ false → held v (f ∷ fs) ≡ 0) [
      | true ↦ λ e g. absurd (true≢false g)
      | false ↦ λ e g. omega (arith, held-cons v f fs, ap bit e, none_held v fs g)
    ] refl h

same_bit : (v w u : List ℕ) → bytes_eq v w ≡ true → bytes_eq v u ≡ bytes_eq w u
same_bit v w u e = ap (λ x. bytes_eq x u) ((bytes_decides v w).0 e)

no_empty : (v w : List ℕ) → 0 < length w → length v ≡ 0 → bytes_eq w v ≡ false
no_empty v w some none =
    elim (bytes_eq w v) as (λ r. bytes_eq w v ≡ r → r ≡ false) [
      | true ↦ λ e. absurd (omega (arith, some, none, ap length ((bytes_decides w v).0 e)))
      | false ↦ λ e. refl
    ] refl

module _ (vs : List (List ℕ)) (v : List ℕ) where
  -- what is not this value is as often there
  still : (f : Facet) → IsOf vs f → bytes_eq f.value v ≡ false → IsOf (v ∷ vs) f
  still f i_f e = (i_f.0, i_f.1, omega (arith, i_f.2, times-cons f.value v vs, ap bit e))

  all_still : (fs : List Facet) → All (IsOf vs) fs → held v fs ≡ 0 → All (IsOf (v ∷ vs)) fs
  all_still [] all none = All-nil (IsOf (v ∷ vs))
  all_still (f ∷ fs) all none =
      elim (bytes_eq f.value v) as (λ r. bytes_eq f.value v ≡ r → All (IsOf (v ∷ vs)) (f ∷ fs)) [
        | true ↦ λ e. absurd (omega (arith, none, held-cons v f fs, ap bit e))
        | false ↦ λ e. All-cons (IsOf (v ∷ vs)) f fs (still f (All-head (IsOf vs) f fs all) e)
            (all_still fs (All-tail (IsOf vs) f fs all) (omega (arith, none, held-cons v f fs, ap bit e)))
      ] refl

  all_raised : (fs : List Facet) → All (IsOf vs) fs → held v fs ≤ 1 → All (IsOf (v ∷ vs)) (raised v fs)
  all_raised [] all once = All-nil (IsOf (v ∷ vs))
  all_raised (f ∷ fs) all once =
      elim (bytes_eq f.value v) as (λ r. bytes_eq f.value v ≡ r → All (IsOf (v ∷ vs)) (cond r (record { value = f.value; count = f.count + 1 } ∷ fs) (f ∷ raised v fs))) [
        | true ↦ λ e.
            let i_f = All-head (IsOf vs) f fs all in
            All-cons (IsOf (v ∷ vs)) (record { value = f.value; count = f.count + 1 }) fs (i_f.0, omega arith, omega (arith, i_f.2, times-cons f.value v vs, ap bit e))
            (all_still fs (All-tail (IsOf vs) f fs all) (omega (arith, once, held-cons v f fs, ap bit e)))
        | false ↦ λ e. All-cons (IsOf (v ∷ vs)) f (raised v fs) (still f (All-head (IsOf vs) f fs all) e)
            (all_raised fs (All-tail (IsOf vs) f fs all) (omega (arith, once, held-cons v f fs, ap bit e)))
      ] refl

  held-raised : (w : List ℕ) (fs : List Facet) → held w (raised v fs) ≡ held w fs
  held-raised w [] = refl
  held-raised w (f ∷ fs) =
      elim (bytes_eq f.value v) as (λ r. held w (cond r (record { value = f.value; count = f.count + 1 } ∷ fs) (f ∷ raised v fs)) ≡ held w (f ∷ fs)) [
        | true ↦ held-cons w (record { value = f.value; count = f.count + 1 }) fs ∙ sym (held-cons w f fs)
        | false ↦ omega (arith, held-cons w f (raised v fs), held-cons w f fs, held-raised w fs)
      ]

  -- where the value is there
  pub tallied_raised : (fs : List Facet) → 0 < held v fs → AreTallied vs fs → AreTallied (v ∷ vs) (raised v fs)
  tallied_raised fs there t = record {
    counts = all_raised fs t.counts (t.once v);
    whole = λ w some more. held_some w (raised v fs) (subst (λ n. 0 < n) (sym (held-raised w fs)) (whole w some more));
    once = λ w. subst (λ n. n ≤ 1) (sym (held-raised w fs)) (t.once w);
  }
    where
      whole : (w : List ℕ) → 0 < length w → 0 < times w (v ∷ vs) → 0 < held w fs
      whole w some more =
          elim (bytes_eq w v) as (λ r. bytes_eq w v ≡ r → 0 < held w fs) [
            | true ↦ λ e. subst (λ u. 0 < held u fs) (sym ((bytes_decides w v).0 e)) there
            | false ↦ λ e. some_held w fs (t.whole w some (omega (arith, more, times-cons w v vs, ap bit e)))
          ] refl

  -- where it is not
  pub tallied_new : (fs : List Facet) → 0 < length v → held v fs ≡ 0 → AreTallied vs fs → AreTallied (v ∷ vs) (record { value = v; count = 1 } ∷ fs)
  tallied_new fs given none t = record {
    counts = All-cons (IsOf (v ∷ vs)) one fs (given, omega arith, omega (arith, times-cons v v vs, one_itself v, none_before)) (all_still fs t.counts none);
    whole = λ w some more. held_some w (one ∷ fs) (whole w some more);
    once = once;
  }
    where
      one : Facet
      one = record { value = v; count = 1 }

      none_before : times v vs ≡ 0
      none_before =
          elim (times v vs == 0) as (λ r. (times v vs == 0) ≡ r → times v vs ≡ 0) [
            | true ↦ λ e. is_none (times v vs) e
            | false ↦ λ e. absurd (omega (arith, none, some_held v fs (t.whole v given (not_none (times v vs) e))))
          ] refl
        where
          is_none : (n : ℕ) → (n == 0) ≡ true → n ≡ 0
          is_none n e = grind (arith, nat_tests)

      whole : (w : List ℕ) → 0 < length w → 0 < times w (v ∷ vs) → 0 < held w (one ∷ fs)
      whole w some more =
          elim (bytes_eq w v) as (λ r. bytes_eq w v ≡ r → 0 < held w (one ∷ fs)) [
            | true ↦ λ e. omega (arith, held-cons w one fs, ap bit ((bytes_decides v w).1 (sym ((bytes_decides w v).0 e))))
            | false ↦ λ e. omega (arith, held-cons w one fs, some_held w fs (t.whole w some (omega (arith, more, times-cons w v vs, ap bit e))))
          ] refl

      once : (w : List ℕ) → held w (one ∷ fs) ≤ 1
      once w =
          elim (bytes_eq v w) as (λ r. bytes_eq v w ≡ r → held w (one ∷ fs) ≤ 1) [
            | true ↦ λ e. omega (arith, held-cons w one fs, ap bit e, ap (λ u. held u fs) ((bytes_decides v w).0 e), none)
            | false ↦ λ e. omega (arith, held-cons w one fs, ap bit e, t.once w)
          ] refl

  -- an empty one is none
  pub tallied_empty : (fs : List Facet) → length v ≡ 0 → AreTallied vs fs → AreTallied (v ∷ vs) fs
  tallied_empty fs none t = record {
    counts = λ k d l. let i_f = t.counts k d l in still (get_or fs k d) i_f (no_empty v _ i_f.0 none);
    whole = λ w some more. t.whole w some (omega (arith, more, times-cons w v vs, ap bit (no_empty v w some none)));
    once = t.once;
  }

tallied_nothing : AreTallied [] []
tallied_nothing = record { counts = All-nil (IsOf []); whole = λ v some there. absurd (omega (arith, there)); once = λ v. omega arith }

tallied_one : (vs : List (List ℕ)) (v : List ℕ) (fs : List Facet) → 0 < length v → AreTallied vs fs → AreTallied (v ∷ vs) (with_one v fs)
tallied_one vs v fs given t =
    elim (list_any (λ f. bytes_eq f.value v) fs) as (λ r. list_any (λ f. bytes_eq f.value v) fs ≡ r → AreTallied (v ∷ vs) (cond r (raised v fs) (record { value = v; count = 1 } ∷ fs))) [
      | true ↦ λ e. tallied_raised vs v fs (some_held v fs e) t
      | false ↦ λ e. tallied_new vs v fs given (none_held v fs e) t
    ] refl

pub tallied : (vs : List (List ℕ)) → AreTallied vs (tally vs)
tallied [] = tallied_nothing
tallied (v ∷ vs) =
    elim (length v == 0) as (λ r. (length v == 0) ≡ r → AreTallied (v ∷ vs) (cond r (tally vs) (with_one v (tally vs)))) [
      | true ↦ λ e. tallied_empty vs v (tally vs) (is_none (length v) e) (tallied vs)
      | false ↦ λ e. tallied_one vs v (tally vs) (not_none (length v) e) (tallied vs)
    ] refl
  where
    is_none : (n : ℕ) → (n == 0) ≡ true → n ≡ 0
    is_none n e = grind (arith, nat_tests)

-- ---- in order

front_swapped : (f g : Facet) (gs : List Facet) → IsPermutation (f ∷ g ∷ gs) (g ∷ f ∷ gs)
front_swapped f g gs = IsPermutation-swap (f ∷ g ∷ gs) (g ∷ f ∷ gs) 0 1 (omega arith) (omega arith) refl

placed_permutation : (f : Facet) (gs : List Facet) → IsPermutation (f ∷ gs) (placed f gs)
placed_permutation f [] = IsPermutation-refl (f ∷ [])
placed_permutation f (g ∷ gs) =
    elim (is_first f g) as (λ b. IsPermutation (f ∷ g ∷ gs) (cond b (f ∷ g ∷ gs) (g ∷ placed f gs))) [
      | true ↦ IsPermutation-refl (f ∷ g ∷ gs)
      | false ↦ IsPermutation-trans _ _ _ (front_swapped f g gs) (IsPermutation-cons g _ _ (placed_permutation f gs))
    ]

pub in_order_permutation : (fs : List Facet) → IsPermutation fs (in_order fs)
in_order_permutation [] = IsPermutation-refl []
in_order_permutation (f ∷ fs) = IsPermutation-trans _ _ _ (IsPermutation-cons f _ _ (in_order_permutation fs)) (placed_permutation f (in_order fs))

-- none stands before an earlier one
abbrev NoneFirst : Facet → List Facet → Type 0
NoneFirst f gs = All (λ g. is_first g f ≡ false) gs

abbrev Rises : List Facet → Type 0
Rises [] = Unit {0}
Rises (f ∷ fs) = NoneFirst f fs × Rises fs

none_through : (a b : Facet) (fs : List Facet) → is_first b a ≡ false → NoneFirst b fs → NoneFirst a fs
none_through a b fs h none = λ k d l. first_order.chain (get_or fs k d) b a (none k d l) h

rises_placed : (f : Facet) (gs : List Facet) → Rises gs → Rises (placed f gs)
rises_placed f [] r = (All-nil (λ g. is_first g f ≡ false), tt)
rises_placed f (g ∷ gs) r =
    elim (is_first f g) as (λ b. is_first f g ≡ b → Rises (cond b (f ∷ g ∷ gs) (g ∷ placed f gs))) [
      | true ↦ λ e. let up = first_order.one_way f g e in (All-cons (λ h. is_first h f ≡ false) g gs up (none_through f g gs up r.0), r)
      | false ↦ λ e. (All-permutation (λ h. is_first h g ≡ false) (f ∷ gs) (placed f gs) (placed_permutation f gs) (All-cons (λ h. is_first h g ≡ false) f gs e r.0), rises_placed f gs r.1)
    ] refl

rises_in_order : (fs : List Facet) → Rises (in_order fs)
rises_in_order [] = tt
rises_in_order (f ∷ fs) = rises_placed f (in_order fs) (rises_in_order fs)

itself : (f : Facet) → is_first f f ≡ false
itself f =
    elim (is_first f f) as (λ b. is_first f f ≡ b → is_first f f ≡ false) [
      | true ↦ λ e. first_order.one_way f f e
      | false ↦ λ e. e
    ] refl

-- none stands before an earlier one, by places
abbrev Far : List Facet → Type 0
Far fs = (i j : ℕ) (d : Facet) → i ≤ j → j < length fs → is_first (get_or fs j d) (get_or fs i d) ≡ false

far_from : (fs : List Facet) → Rises fs → Far fs
far_from [] r i j d l m = absurd (omega (arith, m))
far_from (f ∷ fs) r zero zero d l m = itself f
far_from (f ∷ fs) r zero (suc j) d l m = r.0 j d (omega (arith, m))
far_from (f ∷ fs) r (suc i) zero d l m = absurd (omega (arith, l))
far_from (f ∷ fs) r (suc i) (suc j) d l m = far_from fs r.1 i j d (omega (arith, l)) (omega (arith, m))

pub order_counted : (values : List (List ℕ)) (fs : List Facet) → AreTallied values fs → AreCounted values (in_order fs)
order_counted values fs t = counted_in_order values (in_order fs) (far_from (in_order fs) (rises_in_order fs)) (tallied_permuted values fs (in_order fs) (in_order_permutation fs) t)

pub counted_is : (values : List (List ℕ)) → AreCounted values (counted values)
counted_is values = order_counted values (tally values) (tallied values)

-- ---- a front in order

rises_from : (fs : List Facet) → Far fs → Rises fs
rises_from [] far = tt
rises_from (f ∷ fs) far = ((λ j d l. far 0 (suc j) d (omega arith) (omega (arith, l))), rises_from fs (λ i j d l m. far (suc i) (suc j) d (omega (arith, l)) (omega (arith, m))))

rises_append : (fs gs : List Facet) → Rises fs → Rises gs → All (λ f. NoneFirst f gs) fs → Rises (fs ++ gs)
rises_append [] gs r s all = s
rises_append (f ∷ fs) gs r s all =
    (All-append (λ g. is_first g f ≡ false) fs gs r.0 (All-head (λ f. NoneFirst f gs) f fs all), rises_append fs gs r.1 s (All-tail (λ f. NoneFirst f gs) f fs all))

module _ (values : List (List ℕ)) (fs front : List Facet) (x : Facet) (back ys : List Facet) where
  -- what stands behind the front, in order
  abbrev pub behind : List Facet
  behind = in_order (x ∷ back)

  none_behind : IsSplitAroundBy is_first front x back → NoneFirst x behind
  none_behind split = All-permutation (λ g. is_first g x ≡ false) (x ∷ back) behind (in_order_permutation (x ∷ back)) (All-cons (λ g. is_first g x ≡ false) x back (itself x) (λ k d l. split.1 k d l))

  none_before : IsSplitAroundBy is_first front x back → IsPermutation front ys → All (λ f. NoneFirst f behind) ys
  none_before split same =
      let each = All-permutation (λ f. is_first x f ≡ false) front ys same (λ k d l. split.0 k d l) in
      λ k d l. none_through (get_or ys k d) x behind (each k d l) (none_behind split)

  -- it is the first of what is counted
  pub front_counted : IsPermutation fs (front ++ x ∷ back) → IsSplitAroundBy is_first front x back → IsPermutation front ys → IsSortedBy is_first ys → AreTallied values fs → AreCounted values (ys ++ behind)
  front_counted parts split same sorted t =
      let moved : IsPermutation fs (ys ++ behind) = IsPermutation-trans _ _ _ parts (IsPermutation-append front ys (x ∷ back) behind same (in_order_permutation (x ∷ back))) in
      counted_in_order values (ys ++ behind)
      (far_from (ys ++ behind) (rises_append ys behind (rises_from ys (sorted_far is_first first_order ys sorted)) (rises_in_order (x ∷ back)) (none_before split same)))
      (tallied_permuted values fs (ys ++ behind) moved t)
