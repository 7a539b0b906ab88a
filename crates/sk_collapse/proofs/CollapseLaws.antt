-- What a collapser knows after one match more, and what it tells.
use Rattle.std.proofs.Common.{◌≡◌, ◌≢◌, ◌<◌, ◌≤◌, ◌+◌, ◌-◌, ℕ, zero, suc, min, Bool, true, false, cond, not, ◌==◌, List, [], ◌∷◌, length, take, drop, filter, get_or, bytes_eq, All, AllPairs, Some, refl, sym, ap, ◌∙◌, subst, arith, true≢false, length-take, length-drop}
use Rattle.std.specs.List.{AllByRecursion, IsAmong}
use Rattle.std.specs.List.Sorted.{IsSortedBy}
use Rattle.std.proofs.lemmas.List.Sorted.{sorted_far}
use Rattle.sk_model.proofs.OrderLaws.{before_order}
use Rattle.std.proofs.lemmas.List.Elements.{All-from_recursion, recursion_from_All}
use Rattle.std.proofs.lemmas.List.Sums.{sum_by-cons}
use Rattle.std.proofs.lemmas.List.Kept.{AllPairs-cons}
use Rattle.std.specs.Cmp.Lexicographic.{bytes_decides}
use Rattle.std.proofs.lemmas.Bool.{eq-eqb, eqb-true}
use Rattle.sk_base.specs.declared.find.Collapse.{Collapse}
use Rattle.sk_base.specs.declared.rank.Rank.{Rank}
use Rattle.sk_base.specs.declared.rank.Order.{Order}
use Rattle.sk_base.specs.Before.{is_before}
use Rattle.sk_model.specs.Page.{place, best_first, kept, count_key, dropped}
use Rattle.sk_model.specs.Laws.{kept_number}
use Rattle.sk_model.proofs.KeptLaws.{kept_each, kept_of_key}
use Rattle.sk_model.proofs.PlacedLaws.{all_ordered, take_placed}
use Rattle.sk_collapse.specs.Collapsed.{Collapsed, Group, Knows, group_of, kept_in, dropped_in}
use Rattle.sk_collapse.specs.Verdicts.{Judges, without_rank, verdict_of}
use Rattle.sk_collapse.specs.declared.verdict.Verdict.{Verdict}
use Rattle.sk_collapse.proofs.PlacedLaws.{other_number, each_filter, each_take, each_drop, each_map, Apart, Leads, Strict, Distinct, leads_through, one_first, place_front, strict_best, strict_filter, strict_take, distinct_best, take_twice, without, without_none, without_first, without_apart, without_placed}
use Rattle.sk_collapse.proofs.KeptMore.{each_kept, strict_kept, distinct_kept, free_placed, moves, own_placed, other_placed}

-- ---- ids that differ

apart_tail : (x : Rank) (xs : List Rank) → AllPairs (λ x y. x.id ≢ y.id) (x ∷ xs) → AllPairs (λ x y. x.id ≢ y.id) xs
apart_tail x xs h = λ i j d l m. h (suc i) (suc j) d (omega (arith, l)) (omega (arith, m))

apart_head : (x : Rank) (xs : List Rank) → AllPairs (λ x y. x.id ≢ y.id) (x ∷ xs) → All (λ y. x.id ≢ y.id) xs
apart_head x xs h = λ k d l. h 0 (suc k) d (omega arith) (omega (arith, l))

pub distinct_from : (xs : List Rank) → AllPairs (λ x y. x.id ≢ y.id) xs → Distinct xs
distinct_from [] h = tt
distinct_from (x ∷ xs) h = (recursion_from_All (λ y. x.id ≢ y.id) xs (apart_head x xs h), distinct_from xs (apart_tail x xs h))

pub apart_from : (x : Rank) (xs : List Rank) → All (λ r. r.id ≢ x.id) xs → Apart x xs
apart_from x xs h = each_map (λ r. r.id ≢ x.id) (λ r. x.id ≢ r.id) xs (λ r f e. f (sym e)) (recursion_from_All (λ r. r.id ≢ x.id) xs h)

pub differ_more : (x : Rank) (xs : List Rank) → AllPairs (λ x y. x.id ≢ y.id) xs → All (λ r. r.id ≢ x.id) xs → AllPairs (λ x y. x.id ≢ y.id) (x ∷ xs)
differ_more x xs h a = AllPairs-cons (λ x y. x.id ≢ y.id) x xs (λ k d l e. a k d l (sym e)) h

-- ---- one of a list

each_among : (xs : List Rank) → AllByRecursion (λ y. IsAmong xs y) xs
each_among [] = tt
each_among (x ∷ xs) =
    ((0, (omega arith, refl)), each_map (λ y. IsAmong xs y) (λ y. IsAmong (x ∷ xs) y) xs (λ y m. (suc m.0, (omega (arith, m.1.0), m.1.1))) (each_among xs))

each_passes : (test : Rank → Bool) (xs : List Rank) → AllByRecursion (λ y. test y ≡ true) (filter test xs)
each_passes test [] = tt
each_passes test (x ∷ xs) =
    elim (test x) as (λ b. test x ≡ b → AllByRecursion (λ y. test y ≡ true) (cond b (x ∷ filter test xs) (filter test xs))) [
      | true ↦ λ e. (e, each_passes test xs)
      | false ↦ λ e. each_passes test xs
    ] refl

each_both : (P Q : Rank → Type 0) (xs : List Rank) → AllByRecursion P xs → AllByRecursion Q xs → AllByRecursion (λ y. P y × Q y) xs
each_both P Q [] h g = tt
each_both P Q (x ∷ xs) h g = ((h.0, g.0), each_both P Q xs h.1 g.1)

among_apart : (x z : Rank) (xs : List Rank) → Apart x xs → IsAmong xs z → x.id ≢ z.id
among_apart x z xs a m e = All-from_recursion (λ y. x.id ≢ y.id) xs a m.0 z m.1.0 (e ∙ ap (λ (y : Rank). y.id) m.1.1)

length-place : (order : Order) (x : Rank) (ys : List Rank) → length (place order x ys) ≡ suc (length ys)
length-place order x [] = refl
length-place order x (y ∷ ys) =
    elim (is_before order x y) as (λ b. length (cond b (x ∷ y ∷ ys) (y ∷ place order x ys)) ≡ suc (suc (length ys))) [
      | true ↦ refl
      | false ↦ ap suc (length-place order x ys)
    ]

-- without one of them there is one less
pub length-without_rank : (z : Rank) (xs : List Rank) → Distinct xs → IsAmong xs z → suc (length (without_rank z.id xs)) ≡ length xs
length-without_rank z xs d m = less xs d m.0 m.1.0 m.1.1
  where
    less : (xs : List Rank) → Distinct xs → (i : ℕ) → i < length xs → z ≡ get_or xs i z → suc (length (without_rank z.id xs)) ≡ length xs
    less [] d i l e = absurd (omega (arith, l))
    less (h ∷ t) d zero l e =
        let same : h ≡ z = sym e in
        ap (λ b. suc (length (cond (not b) (h ∷ without_rank z.id t) (without_rank z.id t)))) (eq-eqb h.id z.id (ap (λ (y : Rank). y.id) same))
        ∙ ap (λ ys. suc (length ys)) (without_apart z [] t (subst (λ (y : Rank). Apart y t) same d.0))
    less (h ∷ t) d (suc i) l e =
        let there : IsAmong t z = (i, (omega (arith, l), e)) in
        ap (λ b. suc (length (cond (not b) (h ∷ without_rank z.id t) (without_rank z.id t)))) (other_number h.id z.id (among_apart h z t d.0 there))
        ∙ ap suc (less t d.1 i (omega (arith, l)) e)

-- what stands behind the place of x, x itself aside, comes behind x
fallen : (order : Order) (P : Rank → Type 0) (x : Rank) (n : ℕ) (ys : List Rank) → length ys ≤ n → Strict order ys → AllByRecursion P ys
    → AllByRecursion (λ z. z.id ≢ x.id → P z × (is_before order x z ≡ true)) (drop n (place order x ys))
fallen order P x n [] few s h = each_drop (λ z. z.id ≢ x.id → P z × (is_before order x z ≡ true)) n (x ∷ []) ((λ f. absurd (f refl)), tt)
fallen order P x zero (y ∷ ys) few s h = absurd (omega (arith, few))
fallen order P x (suc n) (y ∷ ys) few s h =
    elim (is_before order x y) as (λ b. is_before order x y ≡ b → AllByRecursion (λ z. z.id ≢ x.id → P z × (is_before order x z ≡ true)) (drop (suc n) (cond b (x ∷ y ∷ ys) (y ∷ place order x ys)))) [
      | true ↦ λ e.
          each_drop (λ z. z.id ≢ x.id → P z × (is_before order x z ≡ true)) n (y ∷ ys)
          (each_map (λ z. P z × (is_before order x z ≡ true)) (λ z. z.id ≢ x.id → P z × (is_before order x z ≡ true)) (y ∷ ys) (λ z g f. g)
          (each_both P (λ z. is_before order x z ≡ true) (y ∷ ys) h (e, leads_through order x y ys e s.0)))
      | false ↦ λ e. fallen order P x n ys (omega (arith, few)) s.1 h.1
    ] refl

-- placed and taken out again
without_itself : (order : Order) (x : Rank) (zs ys : List Rank) → Apart x ys → without (x ∷ zs) (place order x ys) ≡ ys
without_itself order x zs [] a = without_first x zs [] a
without_itself order x zs (y ∷ ys) a =
    elim (is_before order x y) as (λ b. without (x ∷ zs) (cond b (x ∷ y ∷ ys) (y ∷ place order x ys)) ≡ y ∷ ys) [
      | true ↦ without_first x zs (y ∷ ys) a
      | false ↦
          ap (λ b. cond (not b) (y ∷ without (x ∷ zs) (place order x ys)) (without (x ∷ zs) (place order x ys))) (other_number y.id x.id (λ e. a.0 (sym e)))
          ∙ ap (λ ws. y ∷ ws) (without_itself order x zs ys a.1)
    ]

without_like : (x z : Rank) (zs ys : List Rank) → z.id ≡ x.id → without (z ∷ zs) ys ≡ without (x ∷ zs) ys
without_like x z zs ys e = ap (λ i. filter (λ y. not (y.id == i)) ys) e

-- ---- counts

count_more : (key : Rank → List ℕ) (k : List ℕ) (x : Rank) (xs : List Rank) → count_key key k (x ∷ xs) ≡ cond (bytes_eq (key x) k) 1 0 + count_key key k xs
count_more key k x xs = sum_by-cons (λ y. cond (bytes_eq (key y) k) 1 0) x xs

count_own : (key : Rank → List ℕ) (k : List ℕ) (xs : List Rank) → length (filter (λ y. bytes_eq (key y) k) xs) ≡ count_key key k xs
count_own key k [] = refl
count_own key k (x ∷ xs) =
    elim (bytes_eq (key x) k) as (λ b. length (cond b (x ∷ filter (λ y. bytes_eq (key y) k) xs) (filter (λ y. bytes_eq (key y) k) xs)) ≡ cond b 1 0 + count_key key k xs) [
      | true ↦ ap suc (count_own key k xs) ∙ omega arith
      | false ↦ count_own key k xs ∙ omega arith
    ] ∙ sym (count_more key k x xs)

count_placed : (order : Order) (key : Rank → List ℕ) (k : List ℕ) (x : Rank) (xs : List Rank) → count_key key k (place order x xs) ≡ count_key key k (x ∷ xs)
count_placed order key k x [] = refl
count_placed order key k x (y ∷ ys) =
    elim (is_before order x y) as (λ b. count_key key k (cond b (x ∷ y ∷ ys) (y ∷ place order x ys)) ≡ count_key key k (x ∷ y ∷ ys)) [
      | true ↦ refl
      | false ↦ omega (arith, count_more key k y (place order x ys), count_placed order key k x ys, count_more key k x ys, count_more key k x (y ∷ ys), count_more key k y ys)
    ]

count_best : (order : Order) (key : Rank → List ℕ) (k : List ℕ) (xs : List Rank) → count_key key k (best_first order xs) ≡ count_key key k xs
count_best order key k [] = refl
count_best order key k (x ∷ xs) =
    count_placed order key k x (best_first order xs) ∙ count_more key k x (best_first order xs) ∙ ap (λ n. cond (bytes_eq (key x) k) 1 0 + n) (count_best order key k xs) ∙ sym (count_more key k x xs)

-- so many are dropped of so many
module _ (order : Order) (most : ℕ) (key : Rank → List ℕ) (k : List ℕ) (ranks : List Rank) where
  by_key : count_key key k (kept_in order most key ranks) ≡ kept_number most k (count_key key k ranks)
  by_key = kept_each order (record { slot = 0; max = most }) key k ranks

  none_dropped : (length k == 0) ≡ true → dropped_in order most key k ranks ≡ 0
  none_dropped e = ap (λ b. cond b 0 (count_key key k ranks - count_key key k (kept_in order most key ranks))) e

  some_dropped : (length k == 0) ≡ false → dropped_in order most key k ranks ≡ count_key key k ranks - min most (count_key key k ranks)
  some_dropped e =
      ap (λ b. cond b 0 (count_key key k ranks - count_key key k (kept_in order most key ranks))) e
      ∙ ap (λ n. count_key key k ranks - n) (by_key ∙ ap (λ b. cond b (count_key key k ranks) (min most (count_key key k ranks))) e)

  length-group : length (take most (filter (λ y. bytes_eq (key y) k) (best_first order ranks))) ≡ min most (count_key key k ranks)
  length-group = length-take most (filter (λ y. bytes_eq (key y) k) (best_first order ranks)) ∙ ap (min most) (count_own key k (best_first order ranks) ∙ count_best order key k ranks)

-- ---- one match more

module _ (order : Order) (most : ℕ) (key : Rank → List ℕ) (ranks : List Rank) (x : Rank)
    (differ : AllPairs (λ x y. x.id ≢ y.id) ranks) (apart : All (λ r. r.id ≢ x.id) ranks) where
  abbrev Sorted : List Rank
  Sorted = best_first order ranks

  abbrev Before : List Rank
  Before = kept_in order most key ranks

  abbrev After : List Rank
  After = kept_in order most key (x ∷ ranks)

  -- the kept ones of its key
  abbrev Best : List Rank
  Best = take most (filter (λ y. bytes_eq (key y) (key x)) Sorted)

  abbrev Gone : List Rank
  Gone = drop most (place order x Best)

  sorted : Strict order Sorted
  sorted = strict_best order ranks (distinct_from ranks differ)

  distinct : Distinct Sorted
  distinct = distinct_best order ranks (distinct_from ranks differ)

  sorted_apart : Apart x Sorted
  sorted_apart = all_ordered (is_before order) (λ y. x.id ≢ y.id) ranks (apart_from x ranks apart)

  before_apart : Apart x Before
  before_apart = each_kept most key (λ y. x.id ≢ y.id) [] Sorted sorted_apart

  -- under the empty key it comes to the kept ones
  pub judged_empty : (length (key x) == 0) ≡ true → After ≡ place order x Before
  judged_empty none = free_placed most key order x none [] Sorted sorted

  module _ (some : (length (key x) == 0) ≡ false) where
    after_is : After ≡ without Gone (place order x Before)
    after_is = moves most key (key x) some order x ((bytes_decides (key x) (key x)).1 refl) [] most (omega arith) Sorted sorted distinct sorted_apart

    -- nothing falls out: it comes to them
    pub judged_keep : Gone ≡ [] → After ≡ place order x Before
    judged_keep e = after_is ∙ ap (λ g. without g (place order x Before)) e ∙ without_none (place order x Before)

    -- it falls out itself
    pub judged_drop : (z : Rank) (zs : List Rank) → Gone ≡ z ∷ zs → z.id ≡ x.id → After ≡ Before
    judged_drop z zs e same =
        after_is ∙ ap (λ g. without g (place order x Before)) e ∙ without_like x z zs (place order x Before) same ∙ without_itself order x zs Before before_apart

    best_kept : filter (λ y. bytes_eq (key y) (key x)) Before ≡ Best
    best_kept =
        kept_of_key order (record { slot = 0; max = most }) key (key x) ranks
        ∙ ap (λ b. cond b (filter (λ y. bytes_eq (key y) (key x)) Sorted) Best) some

    strict_own : Strict order Best
    strict_own = strict_take order most (filter (λ y. bytes_eq (key y) (key x)) Sorted) (strict_filter order (λ y. bytes_eq (key y) (key x)) Sorted sorted)

    length-best : length Best ≡ min most (count_key key (key x) ranks)
    length-best = length-group order most key (key x) ranks

    -- what falls out, itself aside, was kept, has its key, and comes behind it
    gone_is : (z : Rank) (zs : List Rank) → Gone ≡ z ∷ zs → z.id ≢ x.id → (IsAmong Before z × (bytes_eq (key z) (key x) ≡ true)) × (is_before order x z ≡ true)
    gone_is z zs e other =
        let known : AllByRecursion (λ y. IsAmong Before y × (bytes_eq (key y) (key x) ≡ true)) (filter (λ y. bytes_eq (key y) (key x)) Before) =
        each_both (λ y. IsAmong Before y) (λ y. bytes_eq (key y) (key x) ≡ true) (filter (λ y. bytes_eq (key y) (key x)) Before)
        (each_filter (λ y. IsAmong Before y) (λ y. bytes_eq (key y) (key x)) Before (each_among Before)) (each_passes (λ y. bytes_eq (key y) (key x)) Before) in
        let all = fallen order (λ y. IsAmong Before y × (bytes_eq (key y) (key x) ≡ true)) x most Best (omega (arith, length-best)) strict_own
        (subst (λ (ys : List Rank). AllByRecursion (λ y. IsAmong Before y × (bytes_eq (key y) (key x) ≡ true)) ys) best_kept known) in
        let one = subst (λ (ys : List Rank). AllByRecursion (λ y. y.id ≢ x.id → (IsAmong Before y × (bytes_eq (key y) (key x) ≡ true)) × (is_before order x y ≡ true)) ys) e all in
        one.0 other

    -- another falls out: it comes in its place
    pub judged_for : (z : Rank) (zs : List Rank) → Gone ≡ z ∷ zs → z.id ≢ x.id → Judges (Verdict.KeepFor z.id) order key x Before After
    judged_for z zs e other =
        let known = gone_is z zs e other in (
          z,
          refl,
          known.0.0,
          (bytes_decides (key z) (key x)).0 known.0.1,
          known.1,
          after_is ∙ ap (λ g. without g (place order x Before)) e ∙ without_placed order z x zs Before (λ f. other (sym f)) (strict_kept most key order [] Sorted sorted),
        )

    -- what falls out of the best of its key tells what becomes of it
    judged_by : (gone : List Rank) → Gone ≡ gone → Judges (verdict_of x.id gone) order key x Before After
    judged_by [] e = judged_keep e
    judged_by (z ∷ zs) e =
        elim (z.id == x.id) as (λ b. (z.id == x.id) ≡ b → Judges (cond b Verdict.Drop (Verdict.KeepFor z.id)) order key x Before After) [
          | true ↦ λ same. judged_drop z zs e (eqb-true z.id x.id same)
          | false ↦ λ other. judged_for z zs e (λ f. true≢false (sym (eq-eqb z.id x.id f) ∙ other))
        ] refl

    distinct_before : Distinct Before
    distinct_before = distinct_kept most key [] Sorted distinct

    length-gone : length Gone ≡ suc (min most (count_key key (key x) ranks)) - most
    length-gone = length-drop most (place order x Best) ∙ ap (λ n. n - most) (length-place order x Best ∙ ap suc length-best)

    -- how many are kept
    after_kept : (gone : List Rank) → Gone ≡ gone → length After + length gone ≡ suc (length Before)
    after_kept [] e = let both = ap (λ (ys : List Rank). length ys) (judged_keep e) ∙ length-place order x Before in omega (arith, both)
    after_kept (z ∷ zs) e =
        let one : suc (length zs) ≡ suc (min most (count_key key (key x) ranks)) - most = sym (ap (λ (ys : List Rank). length ys) e) ∙ length-gone in
        elim (z.id == x.id) as (λ b. (z.id == x.id) ≡ b → length After + suc (length zs) ≡ suc (length Before)) [
          | true ↦ λ same.
              let both : length After ≡ length Before = ap (λ (ys : List Rank). length ys) (judged_drop z zs e (eqb-true z.id x.id same)) in
              omega (arith, both, one)
          | false ↦ λ other.
              let apart : z.id ≢ x.id = λ f. true≢false (sym (eq-eqb z.id x.id f) ∙ other) in
              let there = judged_for z zs e apart in
              let less : suc (length (without_rank z.id Before)) ≡ length Before = length-without_rank z Before distinct_before (gone_is z zs e apart).0.0 in
              let both : length After ≡ suc (length (without_rank z.id Before)) = ap (λ (ys : List Rank). length ys) there.5 ∙ length-place order x (without_rank z.id Before) in
              omega (arith, less, both, one)
        ] refl

    -- the best of its key
    best_more : take most (filter (λ y. bytes_eq (key y) (key x)) (best_first order (x ∷ ranks))) ≡ take most (place order x Best)
    best_more =
        ap (take most) (own_placed most key (key x) some order x ((bytes_decides (key x) (key x)).1 refl) Sorted sorted)
        ∙ sym (take_placed (is_before order) most x (filter (λ y. bytes_eq (key y) (key x)) Sorted))

    -- how many of its key are dropped
    dropped_more : dropped_in order most key (key x) (x ∷ ranks) ≡ dropped_in order most key (key x) ranks + length Gone
    dropped_more =
        let more : count_key key (key x) (x ∷ ranks) ≡ 1 + count_key key (key x) ranks =
        count_more key (key x) x ranks ∙ ap (λ b. cond b 1 0 + count_key key (key x) ranks) ((bytes_decides (key x) (key x)).1 refl) in
        omega (arith, some_dropped order most key (key x) (x ∷ ranks) some, some_dropped order most key (key x) ranks some, length-gone, more)

  -- of other keys nothing changes
  module _ (k : List ℕ) (other : bytes_eq (key x) k ≡ false) where
    best_other : take most (filter (λ y. bytes_eq (key y) k) (best_first order (x ∷ ranks))) ≡ take most (filter (λ y. bytes_eq (key y) k) Sorted)
    best_other = ap (take most) (other_placed most key order k x other Sorted)

    same_count : count_key key k (x ∷ ranks) ≡ count_key key k ranks
    same_count = count_more key k x ranks ∙ ap (λ b. cond b 1 0 + count_key key k ranks) other ∙ omega arith

    dropped_other : dropped_in order most key k (x ∷ ranks) ≡ dropped_in order most key k ranks
    dropped_other =
        elim (length k == 0) as (λ b. (length k == 0) ≡ b → dropped_in order most key k (x ∷ ranks) ≡ dropped_in order most key k ranks) [
          | true ↦ λ e. none_dropped order most key k (x ∷ ranks) e ∙ sym (none_dropped order most key k ranks e)
          | false ↦ λ e. some_dropped order most key k (x ∷ ranks) e ∙ ap (λ n. n - min most n) same_count ∙ sym (some_dropped order most key k ranks e)
        ] refl

-- ---- what the collapser knows

some_key : (k : List ℕ) → 0 < length k → (length k == 0) ≡ false
some_key k h = other_number (length k) 0 (λ e. omega (arith, h, e))

key_long : (k : List ℕ) → (length k == 0) ≡ false → 0 < length k
key_long [] e = absurd (true≢false e)
key_long (b ∷ bs) e = omega arith

-- the empty key is no other one
other_key : (j k : List ℕ) → (length j == 0) ≡ true → (length k == 0) ≡ false → bytes_eq j k ≡ false
other_key j k none some =
    elim (bytes_eq j k) as (λ b. bytes_eq j k ≡ b → b ≡ false) [
      | true ↦ λ e. absurd (true≢false (sym none ∙ ap (λ (l : List ℕ). length l == 0) ((bytes_decides j k).0 e) ∙ some))
      | false ↦ λ e. refl
    ] refl

module _ (c : Collapsed) (key : Rank → List ℕ) (ranks : List Rank) (known : Knows c key ranks) where
  -- what it holds of a key differs from what differs from all
  pub knows_differ : (x : Rank) → All (λ r. r.id ≢ x.id) ranks → (k : List ℕ) → 0 < length k → All (λ r. r.id ≢ x.id) (group_of k c.groups).kept
  knows_differ x apart k some =
      All-from_recursion (λ r. r.id ≢ x.id) (group_of k c.groups).kept
      (subst (λ (ys : List Rank). AllByRecursion (λ r. r.id ≢ x.id) ys) (sym (known.groups k some))
      (each_take (λ r. r.id ≢ x.id) c.most (filter (λ y. bytes_eq (key y) k) (best_first c.order ranks))
      (each_filter (λ r. r.id ≢ x.id) (λ y. bytes_eq (key y) k) (best_first c.order ranks)
      (all_ordered (is_before c.order) (λ r. r.id ≢ x.id) ranks (recursion_from_All (λ r. r.id ≢ x.id) ranks apart)))))

  -- what it tells, in the words of the model
  pub knows_kept : (collapse : Collapse) → collapse.max ≡ c.most → length (kept c.order (Some collapse) key ranks) ≡ c.kept
  knows_kept collapse same = ap (λ n. length (kept_in c.order n key ranks)) same ∙ sym known.kept

  pub knows_dropped : (collapse : Collapse) → collapse.max ≡ c.most → (k : List ℕ) → dropped c.order (Some collapse) key k ranks ≡ (group_of k c.groups).dropped
  knows_dropped collapse same k = ap (λ n. dropped_in c.order n key k ranks) same ∙ sym (known.dropped k)

  module _ (x : Rank) (apart : All (λ r. r.id ≢ x.id) ranks) where
    -- a match of the empty key
    pub knows_empty : (length (key x) == 0) ≡ true → Knows (record c { seen = c.seen + 1; kept = c.kept + 1 }) key (x ∷ ranks)
    knows_empty none =
        let more : length (kept_in c.order c.most key (x ∷ ranks)) ≡ suc (length (kept_in c.order c.most key ranks)) =
        ap (λ (ys : List Rank). length ys) (judged_empty c.order c.most key ranks x known.differ apart none) ∙ length-place c.order x (kept_in c.order c.most key ranks) in
        record {
          differ = differ_more x ranks known.differ apart;
          seen = omega (arith, known.seen);
          kept = omega (arith, known.kept, more);
          groups = λ k some.
              known.groups k some ∙ sym (best_other c.order c.most key ranks x known.differ apart k (other_key (key x) k none (some_key k some)));
          dropped = λ k.
              elim (length k == 0) as (λ b. (length k == 0) ≡ b → (group_of k c.groups).dropped ≡ dropped_in c.order c.most key k (x ∷ ranks)) [
                | true ↦ λ e. known.dropped k ∙ none_dropped c.order c.most key k ranks e ∙ sym (none_dropped c.order c.most key k (x ∷ ranks) e)
                | false ↦ λ e. known.dropped k ∙ sym (dropped_other c.order c.most key ranks x known.differ apart k (other_key (key x) k none e))
              ] refl;
        }

    -- a match of another key: its group holds the best, and counts what falls out
    module _ (some : (length (key x) == 0) ≡ false) where
      abbrev Group_best : List Rank
      Group_best = (group_of (key x) c.groups).kept

      abbrev Fallen : List Rank
      Fallen = drop c.most (place c.order x Group_best)

      best_is : Group_best ≡ take c.most (filter (λ y. bytes_eq (key y) (key x)) (best_first c.order ranks))
      best_is = known.groups (key x) (key_long (key x) some)

      fallen_is : Fallen ≡ drop c.most (place c.order x (take c.most (filter (λ y. bytes_eq (key y) (key x)) (best_first c.order ranks))))
      fallen_is = ap (λ (ys : List Rank). drop c.most (place c.order x ys)) best_is

      pub knows_judges : Judges (verdict_of x.id Fallen) c.order key x (kept_in c.order c.most key ranks) (kept_in c.order c.most key (x ∷ ranks))
      knows_judges = judged_by c.order c.most key ranks x known.differ apart some Fallen (sym fallen_is)

      pub knows_keyed : (kept : ℕ) (groups : List (List ℕ × Group)) → kept + length Fallen ≡ c.kept + 1
          → group_of (key x) groups ≡ record { kept = take c.most (place c.order x Group_best); dropped = (group_of (key x) c.groups).dropped + length Fallen }
          → ((k : List ℕ) → bytes_eq (key x) k ≡ false → group_of k groups ≡ group_of k c.groups)
          → Knows (record c { seen = c.seen + 1; kept = kept; groups = groups }) key (x ∷ ranks)
      knows_keyed kept groups count here there =
          let more = after_kept c.order c.most key ranks x known.differ apart some Fallen (sym fallen_is) in
          record {
            differ = differ_more x ranks known.differ apart;
            seen = omega (arith, known.seen);
            kept = omega (arith, known.kept, more, count);
            groups = λ k long.
                elim (bytes_eq (key x) k) as (λ b. bytes_eq (key x) k ≡ b → (group_of k groups).kept ≡ take c.most (filter (λ y. bytes_eq (key y) k) (best_first c.order (x ∷ ranks)))) [
                  | true ↦ λ e.
                      subst (λ (j : List ℕ). (group_of j groups).kept ≡ take c.most (filter (λ y. bytes_eq (key y) j) (best_first c.order (x ∷ ranks)))) ((bytes_decides (key x) k).0 e)
                      (ap (λ (g : Group). g.kept) here ∙ ap (λ (ys : List Rank). take c.most (place c.order x ys)) best_is ∙ sym (best_more c.order c.most key ranks x known.differ apart some))
                  | false ↦ λ e. ap (λ (g : Group). g.kept) (there k e) ∙ known.groups k long ∙ sym (best_other c.order c.most key ranks x known.differ apart k e)
                ] refl;
            dropped = λ k.
                elim (bytes_eq (key x) k) as (λ b. bytes_eq (key x) k ≡ b → (group_of k groups).dropped ≡ dropped_in c.order c.most key k (x ∷ ranks)) [
                  | true ↦ λ e.
                      subst (λ (j : List ℕ). (group_of j groups).dropped ≡ dropped_in c.order c.most key j (x ∷ ranks)) ((bytes_decides (key x) k).0 e)
                      (ap (λ (g : Group). g.dropped) here ∙ (λ i. known.dropped (key x) i + length (fallen_is i)) ∙ sym (dropped_more c.order c.most key ranks x known.differ apart some))
                  | false ↦ λ e. ap (λ (g : Group). g.dropped) (there k e) ∙ known.dropped k ∙ sym (dropped_other c.order c.most key ranks x known.differ apart k e)
                ] refl;
          }

-- ---- the best so many under a verdict

without_far : (id : ℕ) (xs : List Rank) → AllByRecursion (λ z. z.id ≢ id) xs → without_rank id xs ≡ xs
without_far id [] a = refl
without_far id (x ∷ xs) a = ap (λ b. cond (not b) (x ∷ without_rank id xs) (without_rank id xs)) (other_number x.id id a.0) ∙ ap (λ ys. x ∷ ys) (without_far id xs a.1)

far_from : (h : Rank) (id : ℕ) (xs : List Rank) → h.id ≡ id → Apart h xs → AllByRecursion (λ z. z.id ≢ id) xs
far_from h id xs same a = each_map (λ z. h.id ≢ z.id) (λ z. z.id ≢ id) xs (λ z f e. f (same ∙ sym e)) a

-- without one the first so many are among the first and one more
take_without : (n : ℕ) (id : ℕ) (xs : List Rank) → Distinct xs → take n (without_rank id xs) ≡ take n (without_rank id (take (suc n) xs))
take_without zero id xs d = refl
take_without (suc n) id [] d = refl
take_without (suc n) id (h ∷ t) d =
    elim (h.id == id) as (λ b. (h.id == id) ≡ b → take (suc n) (cond (not b) (h ∷ without_rank id t) (without_rank id t)) ≡ take (suc n) (cond (not b) (h ∷ without_rank id (take (suc n) t)) (without_rank id (take (suc n) t)))) [
      | true ↦ λ e.
          let far : AllByRecursion (λ z. z.id ≢ id) t = far_from h id t (eqb-true h.id id e) d.0 in
          ap (take (suc n)) (without_far id t far) ∙ sym (take_twice (suc n) t)
          ∙ sym (ap (take (suc n)) (without_far id (take (suc n) t) (each_take (λ z. z.id ≢ id) (suc n) t far)))
      | false ↦ λ e. ap (λ ys. h ∷ ys) (take_without n id t d.1)
    ] refl

best_step : (n : ℕ) (x h : Rank) (ys zs : List Rank) (b : Bool) (placed others : List Rank)
    → ((m : ℕ) → n ≡ suc m → take m ys ≡ take m zs) → take n placed ≡ take n others
    → take (suc n) (cond b (x ∷ h ∷ ys) (h ∷ placed)) ≡ take (suc n) (cond b (x ∷ h ∷ zs) (h ∷ others))
best_step zero x h ys zs true placed others e g = refl
best_step (suc n) x h ys zs true placed others e g = ap (λ ws. x ∷ h ∷ ws) (e n refl)
best_step n x h ys zs false placed others e g = ap (λ ws. h ∷ ws) g

best_without : (order : Order) (x y : Rank) → is_before order x y ≡ true → (n : ℕ) (xs : List Rank) → Strict order xs → Distinct xs → (i : ℕ) → i < length xs → y ≡ get_or xs i y
    → take n (place order x (without_rank y.id xs)) ≡ take n (place order x (without_rank y.id (take n xs)))
best_without order x y first zero xs s d i l e = refl
best_without order x y first (suc n) [] s d i l e = refl
best_without order x y first (suc n) (h ∷ t) s d zero l e =
    let same : h ≡ y = sym e in
    let far : AllByRecursion (λ z. z.id ≢ y.id) t = far_from h y.id t (ap (λ (z : Rank). z.id) same) d.0 in
    let leads : Leads order x t = leads_through order x y t first (subst (λ (z : Rank). Leads order z t) same s.0) in
    let gone = ap (λ b. cond (not b) (h ∷ without_rank y.id t) (without_rank y.id t)) (eq-eqb h.id y.id (ap (λ (z : Rank). z.id) same)) in
    let gone_front = ap (λ b. cond (not b) (h ∷ without_rank y.id (take n t)) (without_rank y.id (take n t))) (eq-eqb h.id y.id (ap (λ (z : Rank). z.id) same)) in
    ap (λ ys. take (suc n) (place order x ys)) (gone ∙ without_far y.id t far) ∙ ap (take (suc n)) (place_front order x t leads)
    ∙ ap (λ ys. x ∷ ys) (sym (take_twice n t))
    ∙ sym (ap (λ ys. take (suc n) (place order x ys)) (gone_front ∙ without_far y.id (take n t) (each_take (λ z. z.id ≢ y.id) n t far))
    ∙ ap (take (suc n)) (place_front order x (take n t) (each_take (λ z. is_before order x z ≡ true) n t leads)))
best_without order x y first (suc n) (h ∷ t) s d (suc i) l e =
    let other : (h.id == y.id) ≡ false = other_number h.id y.id (among_apart h y t d.0 (i, (omega (arith, l), e))) in
    let stays = ap (λ b. cond (not b) (h ∷ without_rank y.id t) (without_rank y.id t)) other in
    let stays_front = ap (λ b. cond (not b) (h ∷ without_rank y.id (take n t)) (without_rank y.id (take n t))) other in
    ap (λ ys. take (suc n) (place order x ys)) stays
    ∙ best_step n x h (without_rank y.id t) (without_rank y.id (take n t)) (is_before order x h) (place order x (without_rank y.id t)) (place order x (without_rank y.id (take n t)))
    (λ m same. take_without m y.id t d.1 ∙ ap (λ j. take m (without_rank y.id (take j t))) (sym same))
    (best_without order x y first n t s.1 d.1 i (omega (arith, l)) e)
    ∙ sym (ap (λ ys. take (suc n) (place order x ys)) stays_front)

strict_pairs : (order : Order) (xs : List Rank) → AllPairs (λ x y. is_before order x y ≡ true) xs → Strict order xs
strict_pairs order [] h = tt
strict_pairs order (x ∷ xs) h =
    (recursion_from_All (λ y. is_before order x y ≡ true) xs (λ k d l. h 0 (suc k) d (omega arith) (omega (arith, l))), strict_pairs order xs (λ i j d l m. h (suc i) (suc j) d (omega (arith, l)) (omega (arith, m))))

pairs_strict : (order : Order) (xs : List Rank) → Strict order xs → AllPairs (λ x y. is_before order x y ≡ true) xs
pairs_strict order [] s = λ i j d l m. absurd (omega (arith, m))
pairs_strict order (x ∷ xs) s = AllPairs-cons (λ x y. is_before order x y ≡ true) x xs (All-from_recursion (λ y. is_before order x y ≡ true) xs s.0) (pairs_strict order xs s.1)

pub pairs_distinct : (xs : List Rank) → Distinct xs → AllPairs (λ x y. x.id ≢ y.id) xs
pairs_distinct [] s = λ i j d l m. absurd (omega (arith, m))
pairs_distinct (x ∷ xs) s = AllPairs-cons (λ x y. x.id ≢ y.id) x xs (All-from_recursion (λ y. x.id ≢ y.id) xs s.0) (pairs_distinct xs s.1)

-- it comes in the place of one that it comes before: the best of all are the best of the best without that one, and it
pub best_for_kept : (order : Order) (n : ℕ) (x y : Rank) (kept : List Rank) → IsSortedBy (is_before order) kept → AllPairs (λ x y. x.id ≢ y.id) kept → IsAmong kept y → is_before order x y ≡ true
    → take n (place order x (without_rank y.id kept)) ≡ take n (place order x (without_rank y.id (take n kept)))
best_for_kept order n x y kept sorted differ there first =
    best_without order x y first n kept
    (strict_pairs order kept (λ i j d l m. one_first order (get_or kept j d) (get_or kept i d) (λ e. differ i j d l m (sym e)) (sorted_far (is_before order) (before_order order) kept sorted i j d (omega (arith, l)) m)))
    (distinct_from kept differ) there.0 there.1.0 there.1.1

-- the kept matches stand in order, and their ids differ
pub kept_sorted : (order : Order) (most : ℕ) (key : Rank → List ℕ) (ranks : List Rank) → AllPairs (λ x y. x.id ≢ y.id) ranks → IsSortedBy (is_before order) (kept_in order most key ranks)
kept_sorted order most key ranks differ =
    let pairs = pairs_strict order (kept_in order most key ranks) (strict_kept most key order [] (best_first order ranks) (strict_best order ranks (distinct_from ranks differ))) in
    λ k d l m. (before_order order).one_way _ _ (pairs k (k + 1) d (omega arith) (omega (arith, m)))

pub kept_differ : (order : Order) (most : ℕ) (key : Rank → List ℕ) (ranks : List Rank) → AllPairs (λ x y. x.id ≢ y.id) ranks → AllPairs (λ x y. x.id ≢ y.id) (kept_in order most key ranks)
kept_differ order most key ranks differ =
    pairs_distinct (kept_in order most key ranks) (distinct_kept most key [] (best_first order ranks) (distinct_best order ranks (distinct_from ranks differ)))
