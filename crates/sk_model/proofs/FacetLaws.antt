-- What is counted of values is one list, and each value is counted once.
use Rattle.std.proofs.Common.{◌≡◌, ◌<◌, ◌≤◌, ◌+◌, ◌⊎◌, inl, inr, ℕ, zero, suc, Bool, true, false, cond, ◌||◌, ◌==◌, List, [], ◌∷◌, length, get_or, count_by, sum_by, bytes_eq, All, AllPairs, IsPermutation, refl, sym, ap, ◌∙◌, subst, arith, true≢false}
use Rattle.std.proofs.lemmas.Bool.Decides.{nat_tests}
use Rattle.std.proofs.lemmas.List.Elements.{All-head, All-tail}
use Rattle.std.proofs.lemmas.List.MinMax.{ranks_by}
use Rattle.std.proofs.lemmas.List.Sorted.{sorted_far, sum_by-IsPermutation, All-permutation, list_any-IsPermutation}
use Rattle.std.proofs.lemmas.List.Sums.{sum_by-cons, get_or-le-sum_by}
use Rattle.std.proofs.lemmas.Map.Text.{is_eq-slice_cmp}
use Rattle.std.specs.Cmp.{IsTotalOrder, IsStrictWeakOrder, on_total, back_total, then_total, nat_cmp_total}
use Rattle.std.specs.Cmp.Lexicographic.{slice_cmp, nat_list_cmp_total, bytes_decides}
use Rattle.std.specs.List.{list_any}
use Rattle.std.specs.List.Sorted.{IsSortedBy}
use Rattle.std.specs.Ordering.{nat_cmp, ordering_then, is_lt, is_eq}
use Rattle.std.specs.declared.cmp.Ordering.{Ordering}
use Rattle.std.specs.declared.cmp.Ordering.TheVariants.{Less, Equal, Greater}
use Rattle.sk_base.specs.Order.{Precedes}
use Rattle.sk_base.specs.declared.facets.Facet.{Facet}
use Rattle.sk_model.specs.Facets.{times, number_without, StandsBefore, AreCounted}
use Rattle.sk_model.specs.Laws.{AreTallied, facet_cmp}
use Rattle.sk_model.specs.Counting.{is_first}
use Rattle.sk_model.proofs.OrderLaws.{tied}

-- ---- the order

pub facet_total : IsTotalOrder facet_cmp
facet_total = then_total (on_total (λ (f : Facet). f.count) (back_total nat_cmp_total)) (on_total (λ (f : Facet). f.value) nat_list_cmp_total)

pub first_order : IsStrictWeakOrder is_first
first_order = ranks_by facet_total (λ (f : Facet). f)

not_below_itself : (n : ℕ) → n < n → ⊥
not_below_itself n h = omega (arith, h)

-- no value precedes itself
none_itself : (v : List ℕ) → Precedes v v → ⊥
none_itself v p = true≢false (sym ((bytes_decides v v).1 refl) ∙ sym (is_eq-slice_cmp v v) ∙ ap is_eq p)

is_less : (r : Ordering) → is_lt r ≡ true → r ≡ Less
is_less Less h = refl
is_less Equal h = absurd (true≢false (sym h))
is_less Greater h = absurd (true≢false (sym h))

-- what the test says of counts
stands : (f g : Facet) (counts : Ordering) → nat_cmp g.count f.count ≡ counts → is_lt (ordering_then counts (slice_cmp nat_cmp f.value g.value)) ≡ true → StandsBefore f g
stands f g Less e h = inl (fewer g.count f.count (ap is_lt e))
  where
    fewer : (m n : ℕ) → is_lt (nat_cmp m n) ≡ true → m < n
    fewer m n e = grind (arith, nat_tests)
stands f g Equal e h = inr (sym (same g.count f.count (ap is_eq e)), is_less (slice_cmp nat_cmp f.value g.value) h)
  where
    same : (m n : ℕ) → is_eq (nat_cmp m n) ≡ true → m ≡ n
    same m n e = grind (arith, nat_tests)
stands f g Greater e h = absurd (true≢false (sym h))

pub stands_first : (f g : Facet) → is_first f g ≡ true → StandsBefore f g
stands_first f g h = stands f g (nat_cmp g.count f.count) refl h

second_ties : (a b : Ordering) → ordering_then a b ≡ Equal → b ≡ Equal
second_ties Less b e = absurd (true≢false (sym (ap is_eq e)))
second_ties Equal b e = e
second_ties Greater b e = absurd (true≢false (sym (ap is_eq e)))

-- of two different values one stands before the other
pub settled : (f g : Facet) → is_first g f ≡ false → bytes_eq f.value g.value ≡ false → StandsBefore f g
settled f g h apart =
    elim (is_first f g) as (λ b. is_first f g ≡ b → StandsBefore f g) [
      | true ↦ λ e. stands_first f g e
      | false ↦ λ e. absurd (true≢false (sym (ap is_eq (second_ties (nat_cmp g.count f.count) (slice_cmp nat_cmp f.value g.value) (tied (facet_cmp f g) (facet_cmp g f) (facet_total.antisymm f g) e h)))
          ∙ is_eq-slice_cmp f.value g.value ∙ apart))
    ] refl

-- ---- lists in order

-- each stands before all that follow
abbrev Before : Facet → List Facet → Type 0
Before f [] = Unit {0}
Before f (g ∷ gs) = StandsBefore f g × Before f gs

abbrev Falls : List Facet → Type 0
Falls [] = Unit {0}
Falls (f ∷ fs) = Before f fs × Falls fs

before_from : (f : Facet) (gs : List Facet) → ((j : ℕ) (d : Facet) → j < length gs → StandsBefore f (get_or gs j d)) → Before f gs
before_from f [] h = tt
before_from f (g ∷ gs) h = (h 0 g (omega arith), before_from f gs (λ j d l. h (suc j) d (omega arith)))

pub falls_from : (fs : List Facet) → AllPairs StandsBefore fs → Falls fs
falls_from [] h = tt
falls_from (f ∷ fs) h = (before_from f fs (λ j d l. h 0 (suc j) d (omega arith) (omega arith)), falls_from fs (λ i j d l m. h (suc i) (suc j) d (omega arith) (omega arith)))

-- nothing stands before itself
not_first_itself : (f : Facet) → StandsBefore f f → ⊥
not_first_itself f (inl h) = not_below_itself f.count h
not_first_itself f (inr h) = none_itself f.value h.1

one_way : (f g : Facet) → StandsBefore f g → StandsBefore g f → ⊥
one_way f g (inl h) (inl k) = omega (arith, h, k)
one_way f g (inl h) (inr k) = omega (arith, h, k.0)
one_way f g (inr h) (inl k) = omega (arith, h.0, k)
one_way f g (inr h) (inr k) = none_itself f.value (nat_list_cmp_total.trans f.value g.value f.value h.1 k.1)

-- one of the list
abbrev Has : Facet → List Facet → Type 0
Has z [] = ⊥
Has z (f ∷ fs) = (z ≡ f) ⊎ Has z fs

before_all : (f z : Facet) (fs : List Facet) → Before f fs → Has z fs → StandsBefore f z
before_all f z [] b h = absurd h
before_all f z (g ∷ gs) b (inl e) = subst (StandsBefore f) (sym e) b.0
before_all f z (g ∷ gs) b (inr h) = before_all f z gs b.1 h

-- lists in order that have the same are one
same_lists : (xs ys : List Facet) → Falls xs → Falls ys → ((z : Facet) → Has z xs → Has z ys) → ((z : Facet) → Has z ys → Has z xs) → xs ≡ ys
same_lists [] [] r s into back = refl
same_lists [] (y ∷ ys) r s into back = absurd (back y (inl refl))
same_lists (x ∷ xs) [] r s into back = absurd (into x (inl refl))
same_lists (x ∷ xs) (y ∷ ys) r s into back =
    let heads : x ≡ y = heads_same (into x (inl refl)) (back y (inl refl)) in
    let tails : xs ≡ ys = same_lists xs ys r.1 s.1
    (λ z h. behind y ys z (λ e. not_first_itself x (subst (StandsBefore x) (e ∙ sym heads) (before_all x z xs r.0 h))) (into z (inr h)))
    (λ z h. behind x xs z (λ e. not_first_itself y (subst (StandsBefore y) (e ∙ heads) (before_all y z ys s.0 h))) (back z (inr h))) in
    λ i. heads i ∷ tails i
  where
    heads_same : Has x (y ∷ ys) → Has y (x ∷ xs) → x ≡ y
    heads_same (inl e) k = e
    heads_same (inr h) (inl e) = sym e
    heads_same (inr h) (inr k) = absurd (one_way x y (before_all x y xs r.0 k) (before_all y x ys s.0 h))

    behind : (f : Facet) (fs : List Facet) (z : Facet) → (z ≡ f → ⊥) → Has z (f ∷ fs) → Has z fs
    behind f fs z not_it (inl e) = absurd (not_it e)
    behind f fs z not_it (inr h) = h

-- ---- what is counted

module _ (values : List (List ℕ)) where
  -- what one of the list is
  abbrev pub IsOf : Facet → Type 0
  IsOf f = (0 < length f.value) × (0 < f.count) × (f.count ≡ times f.value values)

  of_has : (z : Facet) (fs : List Facet) → All IsOf fs → Has z fs → IsOf z
  of_has z [] all h = absurd h
  of_has z (f ∷ fs) all (inl e) = subst IsOf (sym e) (All-head IsOf f fs all)
  of_has z (f ∷ fs) all (inr h) = of_has z fs (All-tail IsOf f fs all) h

  same_facet : (z f : Facet) → IsOf z → IsOf f → bytes_eq f.value z.value ≡ true → z ≡ f
  same_facet z f iz i_f e =
      let values_same : z.value ≡ f.value = sym ((bytes_decides f.value z.value).0 e) in
      let counts_same : z.count ≡ f.count = iz.2 ∙ ap (λ v. times v values) values_same ∙ sym i_f.2 in
      λ i. record { value = values_same i; count = counts_same i }

  has_of : (z : Facet) (fs : List Facet) → All IsOf fs → IsOf z → list_any (λ f. bytes_eq f.value z.value) fs ≡ true → Has z fs
  has_of z [] all iz h = absurd (true≢false (sym h))
  has_of z (f ∷ fs) all iz h =
      elim (bytes_eq f.value z.value) as (λ b. bytes_eq f.value z.value ≡ b → (b || list_any (λ f. bytes_eq f.value z.value) fs) ≡ true → Has z (f ∷ fs)) [
        | true ↦ λ e g. inl (same_facet z f iz (All-head IsOf f fs all) e)
        | false ↦ λ e g. inr (has_of z fs (All-tail IsOf f fs all) iz g)
      ] refl h

  into : (xs ys : List Facet) → AreCounted values xs → AreCounted values ys → (z : Facet) → Has z xs → Has z ys
  into xs ys cx cy z h =
      let iz = of_has z xs cx.counts h in
      has_of z ys cy.counts iz (cy.whole z.value iz.0 (subst (λ n. 0 < n) iz.2 iz.1))

  pub one_list : (xs ys : List Facet) → AreCounted values xs → AreCounted values ys → xs ≡ ys
  one_list xs ys cx cy = same_lists xs ys (falls_from xs cx.order) (falls_from ys cy.order) (into xs ys cx cy) (into ys xs cy cx)

-- ---- sorting

-- how many of a list have this value
abbrev pub held : List ℕ → List Facet → ℕ
held v fs = count_by (λ f. bytes_eq f.value v) fs

-- a test as a number
abbrev pub bit : Bool → ℕ
bit b = cond b 1 0

pub held-cons : (v : List ℕ) (f : Facet) (fs : List Facet) → held v (f ∷ fs) ≡ bit (bytes_eq f.value v) + held v fs
held-cons v f fs = sum_by-cons (λ g. cond (bytes_eq g.value v) 1 0) f fs

pub one_itself : (v : List ℕ) → bit (bytes_eq v v) ≡ 1
one_itself v = ap bit ((bytes_decides v v).1 refl)

pub turned : (v w : List ℕ) → bytes_eq w v ≡ false → bytes_eq v w ≡ false
turned v w e =
    elim (bytes_eq v w) as (λ b. bytes_eq v w ≡ b → b ≡ false) [
      | true ↦ λ g. absurd (true≢false (sym ((bytes_decides w v).1 (sym ((bytes_decides v w).0 g))) ∙ e))
      | false ↦ λ g. refl
    ] refl

none_where : (b : Bool) (n : ℕ) → bit b ≤ n → n ≡ 0 → b ≡ false
none_where true n h e = absurd (omega (arith, h, e))
none_where false n h e = refl

-- where each value stands once at the most, no two are the same
apart : (fs : List Facet) → ((v : List ℕ) → held v fs ≤ 1) → (i j : ℕ) (d : Facet) → i < j → j < length fs
    → (let f : Facet = get_or fs i d in let g : Facet = get_or fs j d in bytes_eq f.value g.value ≡ false)
apart [] once i j d l m = absurd (omega (arith, m))
apart (f ∷ fs) once zero zero d l m = absurd (omega (arith, l))
apart (f ∷ fs) once zero (suc j) d l m =
    let g : Facet = get_or fs j d in
    let none : held f.value fs ≡ 0 = omega (arith, once f.value, held-cons f.value f fs, one_itself f.value) in
    turned f.value g.value (none_where (bytes_eq g.value f.value) (held f.value fs) (get_or-le-sum_by (λ (h : Facet). cond (bytes_eq h.value f.value) 1 0) fs j d (omega (arith, m))) none)
apart (f ∷ fs) once (suc i) zero d l m = absurd (omega (arith, l))
apart (f ∷ fs) once (suc i) (suc j) d l m = apart fs (λ v. omega (arith, once v, held-cons v f fs)) i j d (omega (arith, l)) (omega (arith, m))

-- the same in another order
pub tallied_permuted : (values : List (List ℕ)) (xs ys : List Facet) → IsPermutation xs ys → AreTallied values xs → AreTallied values ys
tallied_permuted values xs ys same t = record {
  counts = All-permutation (IsOf values) xs ys same t.counts;
  whole = λ v some there. sym (list_any-IsPermutation (λ f. bytes_eq f.value v) xs ys same) ∙ t.whole v some there;
  once = λ v. subst (λ n. n ≤ 1) (sym (sum_by-IsPermutation (λ (f : Facet). cond (bytes_eq f.value v) 1 0) xs ys same)) (t.once v);
}

-- what is tallied is counted where none stands before an earlier one
pub counted_in_order : (values : List (List ℕ)) (fs : List Facet) → ((i j : ℕ) (d : Facet) → i ≤ j → j < length fs → is_first (get_or fs j d) (get_or fs i d) ≡ false) → AreTallied values fs → AreCounted values fs
counted_in_order values fs far t = record {
  counts = t.counts;
  whole = t.whole;
  order = λ i j d l m. settled (get_or fs i d) (get_or fs j d) (far i j d (omega (arith, l)) m) (apart fs t.once i j d l m);
}

pub sorted_counted : (values : List (List ℕ)) (xs ys : List Facet) → IsPermutation xs ys → IsSortedBy is_first ys → AreTallied values xs → AreCounted values ys
sorted_counted values xs ys same sorted t = counted_in_order values ys (sorted_far is_first first_order ys sorted) (tallied_permuted values xs ys same t)

-- ---- the sum

module _ (values : List (List ℕ)) where
  -- no value of what follows is that of one that stands before
  none_of : (f : Facet) (gs : List Facet) → IsOf values f → All (IsOf values) gs → Before f gs → (v : List ℕ) → bytes_eq f.value v ≡ true → held v gs ≡ 0
  none_of f [] i_f all b v e = refl
  none_of f (g ∷ gs) i_f all b v e =
      elim (bytes_eq g.value v) as (λ r. bytes_eq g.value v ≡ r → held v (g ∷ gs) ≡ 0) [
        | true ↦ λ k. absurd (not_first_itself f (subst (StandsBefore f)
            (same_facet values g f (All-head (IsOf values) g gs all) i_f ((bytes_decides f.value g.value).1 ((bytes_decides f.value v).0 e ∙ sym ((bytes_decides g.value v).0 k)))) b.0))
        | false ↦ λ k. omega (arith, held-cons v g gs, ap bit k, none_of f gs i_f (All-tail (IsOf values) g gs all) b.1 v e)
      ] refl

  once_from : (fs : List Facet) → All (IsOf values) fs → Falls fs → (v : List ℕ) → held v fs ≤ 1
  once_from [] all falls v = omega arith
  once_from (f ∷ fs) all falls v =
      elim (bytes_eq f.value v) as (λ r. bytes_eq f.value v ≡ r → held v (f ∷ fs) ≤ 1) [
        | true ↦ λ e. omega (arith, held-cons v f fs, ap bit e, none_of f fs (All-head (IsOf values) f fs all) (All-tail (IsOf values) f fs all) falls.0 v e)
        | false ↦ λ e. omega (arith, held-cons v f fs, ap bit e, once_from fs (All-tail (IsOf values) f fs all) falls.1 v)
      ] refl

  -- no empty value is counted
  none_empty : (fs : List Facet) → All (IsOf values) fs → (v : List ℕ) → (length v == 0) ≡ true → held v fs ≡ 0
  none_empty [] all v e = refl
  none_empty (f ∷ fs) all v e =
      elim (bytes_eq f.value v) as (λ r. bytes_eq f.value v ≡ r → held v (f ∷ fs) ≡ 0) [
        | true ↦ λ k. absurd (not_below_itself 0 (subst (λ n. 0 < n) (ap length ((bytes_decides f.value v).0 k) ∙ none (length v) e) (All-head (IsOf values) f fs all).0))
        | false ↦ λ k. omega (arith, held-cons v f fs, ap bit k, none_empty fs (All-tail (IsOf values) f fs all) v e)
      ] refl
    where
      none : (n : ℕ) → (n == 0) ≡ true → n ≡ 0
      none n e = grind (arith, nat_tests)

  counts_are : (fs : List Facet) → All (IsOf values) fs → sum_by (λ (f : Facet). f.count) fs ≡ sum_by (λ (f : Facet). times f.value values) fs
  counts_are [] all = refl
  counts_are (f ∷ fs) all =
      omega (arith, sum_by-cons (λ (g : Facet). g.count) f fs, sum_by-cons (λ (g : Facet). times g.value values) f fs, (All-head (IsOf values) f fs all).2, counts_are fs (All-tail (IsOf values) f fs all))

pub some_held : (v : List ℕ) (fs : List Facet) → list_any (λ f. bytes_eq f.value v) fs ≡ true → 0 < held v fs
some_held v [] h = absurd (true≢false (sym h))
some_held v (f ∷ fs) h =
    elim (bytes_eq f.value v) as (λ r. bytes_eq f.value v ≡ r → (r || list_any (λ f. bytes_eq f.value v) fs) ≡ true → 0 < held v (f ∷ fs)) [
      | true ↦ λ e g. omega (arith, held-cons v f fs, ap bit e)
      | false ↦ λ e g. omega (arith, held-cons v f fs, ap bit e, some_held v fs g)
    ] refl h

none_in_none : (vs : List (List ℕ)) → sum_by (λ v. held v []) vs ≡ 0
none_in_none [] = refl
none_in_none (v ∷ vs) = omega (arith, sum_by-cons (λ w. held w []) v vs, none_in_none vs)

four_parts : (a b c d m n : ℕ) → a ≡ b + c → m ≡ d + n → a + m ≡ (b + d) + (c + n)
four_parts a b c d m n e g = omega (arith, e, g)

one_more : (f : Facet) (fs : List Facet) (vs : List (List ℕ)) → sum_by (λ v. held v (f ∷ fs)) vs ≡ times f.value vs + sum_by (λ v. held v fs) vs
one_more f fs [] = refl
one_more f fs (v ∷ vs) =
    sum_by-cons (λ w. held w (f ∷ fs)) v vs
    ∙ four_parts (held v (f ∷ fs)) (bit (bytes_eq f.value v)) (held v fs) (times f.value vs) (sum_by (λ w. held w (f ∷ fs)) vs) (sum_by (λ w. held w fs) vs) (held-cons v f fs) (one_more f fs vs)
    ∙ λ i. sym (sum_by-cons (λ w. cond (bytes_eq f.value w) 1 0) v vs) i + sym (sum_by-cons (λ w. held w fs) v vs) i

-- counted by value, or by facet
twice : (fs : List Facet) (vs : List (List ℕ)) → sum_by (λ (f : Facet). times f.value vs) fs ≡ sum_by (λ v. held v fs) vs
twice [] vs = sym (none_in_none vs)
twice (f ∷ fs) vs = sum_by-cons (λ (g : Facet). times g.value vs) f fs ∙ ap (λ n. times f.value vs + n) (twice fs vs) ∙ sym (one_more f fs vs)

pub not_none : (n : ℕ) → (n == 0) ≡ false → 0 < n
not_none n e = grind (arith, nat_tests)

one_each : (values : List (List ℕ)) (fs : List Facet) → AreCounted values fs → (v : List ℕ) → 0 < times v values → held v fs + cond (length v == 0) 1 0 ≡ 1
one_each values fs c v there =
    elim (length v == 0) as (λ r. (length v == 0) ≡ r → held v fs + cond r 1 0 ≡ 1) [
      | true ↦ λ e. omega (arith, none_empty values fs c.counts v e)
      | false ↦ λ e. omega (arith, some_held v fs (c.whole v (not_none (length v) e) there), once_from values fs c.counts (falls_from fs c.order) v)
    ] refl

add_up : (values : List (List ℕ)) (fs : List Facet) → AreCounted values fs → (vs : List (List ℕ)) → All (λ v. 0 < times v values) vs
    → sum_by (λ v. held v fs) vs + number_without vs ≡ length vs
add_up values fs c [] all = refl
add_up values fs c (v ∷ vs) all =
    omega (
      arith,
      sum_by-cons (λ w. held w fs) v vs,
      sum_by-cons (λ (w : List ℕ). cond (length w == 0) 1 0) v vs,
      one_each values fs c v (All-head (λ w. 0 < times w values) v vs all),
      add_up values fs c vs (All-tail (λ w. 0 < times w values) v vs all),
    )

all_there : (values : List (List ℕ)) → All (λ v. 0 < times v values) values
all_there values i d l =
    let v = get_or values i d in
    omega (arith, get_or-le-sum_by (λ w. cond (bytes_eq v w) 1 0) values i d l, one_itself v)

-- each value is counted once, or it is empty
pub sum_of_counts : (values : List (List ℕ)) (fs : List Facet) → AreCounted values fs → sum_by (λ (f : Facet). f.count) fs + number_without values ≡ length values
sum_of_counts values fs c = ap (λ n. n + number_without values) (counts_are values fs c.counts ∙ twice fs values) ∙ add_up values fs c values (all_there values)

no_more : (fs : List Facet) → All (λ f. 0 < f.count) fs → length fs ≤ sum_by (λ (f : Facet). f.count) fs
no_more [] all = omega arith
no_more (f ∷ fs) all =
    omega (arith, sum_by-cons (λ (g : Facet). g.count) f fs, All-head (λ g. 0 < g.count) f fs all, no_more fs (All-tail (λ g. 0 < g.count) f fs all))

-- no more are counted than there are values
pub few_facets : (values : List (List ℕ)) (fs : List Facet) → AreCounted values fs → length fs ≤ length values
few_facets values fs c = omega (arith, sum_of_counts values fs c, no_more fs (λ k d l. (c.counts k d l).1))
