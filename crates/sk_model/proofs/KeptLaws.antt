-- How many matches are kept: it hangs on how often each key occurs alone.
use Rattle.std.proofs.Common.{◌≡◌, ◌<◌, ◌≤◌, ◌+◌, ◌-◌, ℕ, zero, suc, min, Bool, true, false, cond, ◌||◌, ◌==◌, nat_lt, List, [], ◌∷◌, length, take, filter, if◌then◌else◌, count_by, bytes_eq, Option, Some, None, refl, sym, ap, ◌∙◌, subst, arith, true≢false, length-take, ◌++◌, drop, length-drop}
use Rattle.std.proofs.lemmas.List.Sums.{sum_by-cons, sum_by-append, sum_by-take-le, sum_by-take-drop}
use Rattle.std.proofs.lemmas.List.Sorted.{sum_by-IsPermutation}
use Rattle.std.specs.Cmp.Lexicographic.{bytes_decides}
use Rattle.std.proofs.lemmas.Bool.{ltb-false, ltb-true}
use Rattle.sk_base.proofs.Tests.{same_tests}
use Rattle.sk_base.specs.declared.find.Collapse.{Collapse}
use Rattle.sk_base.specs.declared.rank.Rank.{Rank}
use Rattle.sk_base.specs.declared.rank.Order.{Order}
use Rattle.sk_base.specs.Before.{is_before}
use Rattle.sk_model.specs.Page.{best_first, is_kept, kept_behind, kept, count_key, dropped}
use Rattle.sk_model.specs.Laws.{kept_number, kept_first}
use Rattle.sk_model.proofs.PlacedLaws.{ordered_permutation, length-ordered}

-- ---- tests

pub bytes_sym : (a b : List ℕ) → bytes_eq a b ≡ bytes_eq b a
bytes_sym a b = same_tests (bytes_eq a b) (bytes_eq b a) (λ e. (bytes_decides b a).1 (sym ((bytes_decides a b).0 e))) (λ e. (bytes_decides a b).1 (sym ((bytes_decides b a).0 e)))

-- ---- one key

module _ (key : Rank → List ℕ) (k : List ℕ) where
  counted : (x : Rank) (xs : List Rank) (same : Bool) → bytes_eq (key x) k ≡ same → count_key key k (x ∷ xs) ≡ cond same 1 0 + count_key key k xs
  counted x xs same e = sum_by-cons (λ y. cond (bytes_eq (key y) k) 1 0) x xs ∙ ap (λ b. cond b 1 0 + count_key key k xs) e

  -- a match more: it is kept where fewer than the most of its key were
  kept_step : (x : Rank) (more less xs : List Rank) (most n m : ℕ) (is same : Bool)
      → bytes_eq (key x) k ≡ same
      → count_key key k more ≡ min (most - m) (count_key key k xs)
      → count_key key k less ≡ min (most - n) (count_key key k xs)
      → m ≡ cond same 1 0 + n
      → (same ≡ true → is ≡ nat_lt n most)
      → count_key key k (cond is (x ∷ more) less) ≡ min (most - n) (count_key key k (x ∷ xs))
  kept_step x more less xs most n m true true e h g before test =
      let room : n < most = ltb-true n most (sym (test refl)) in
      omega (arith, counted x more true e, counted x xs true e, h, before, room)
  kept_step x more less xs most n m true false e h g before test = omega (arith, counted x more false e, counted x xs false e, h, before)
  kept_step x more less xs most n m false true e h g before test =
      let full : most ≤ n = ltb-false n most (sym (test refl)) in
      omega (arith, counted x xs true e, g, full)
  kept_step x more less xs most n m false false e h g before test = omega (arith, counted x xs false e, g)

  -- a match more of the empty key, or of another one: in any case it is counted where it is of this key
  empty_step : (x : Rank) (more less xs : List Rank) (is same : Bool)
      → bytes_eq (key x) k ≡ same
      → count_key key k more ≡ count_key key k xs
      → count_key key k less ≡ count_key key k xs
      → (same ≡ true → is ≡ true)
      → count_key key k (cond is (x ∷ more) less) ≡ count_key key k (x ∷ xs)
  empty_step x more less xs true same e h g test = omega (arith, counted x more same e, counted x xs same e, h)
  empty_step x more less xs false true e h g test = absurd (true≢false (sym (test refl)))
  empty_step x more less xs false false e h g test = omega (arith, counted x xs false e, g)

  module _ (most : ℕ) where
    before_more : (x : Rank) (before : List (List ℕ)) → count_by (bytes_eq k) (key x ∷ before) ≡ cond (bytes_eq (key x) k) 1 0 + count_by (bytes_eq k) before
    before_more x before = sum_by-cons (λ y. cond (bytes_eq k y) 1 0) (key x) before ∙ ap (λ b. cond b 1 0 + count_by (bytes_eq k) before) (bytes_sym k (key x))

    test_is : (x : Rank) (before : List (List ℕ)) (none : Bool) → (length k == 0) ≡ none → bytes_eq (key x) k ≡ true → is_kept most (key x) before ≡ (none || nat_lt (count_by (bytes_eq k) before) most)
    test_is x before none e same = ap (λ j. is_kept most j before) ((bytes_decides (key x) k).0 same) ∙ ap (λ b. b || nat_lt (count_by (bytes_eq k) before) most) e

    -- of a key that is not empty, no more than the most less those before
    behind_is : (length k == 0) ≡ false → (before : List (List ℕ)) (xs : List Rank) → count_key key k (kept_behind most key before xs) ≡ min (most - count_by (bytes_eq k) before) (count_key key k xs)
    behind_is some before [] = omega arith
    behind_is some before (x ∷ xs) =
        kept_step x (kept_behind most key (key x ∷ before) xs) (kept_behind most key before xs) xs most (count_by (bytes_eq k) before) (count_by (bytes_eq k) (key x ∷ before))
        (is_kept most (key x) before) (bytes_eq (key x) k) refl (behind_is some (key x ∷ before) xs) (behind_is some before xs) (before_more x before) (test_is x before false some)

    -- all of the empty key
    behind_all : (length k == 0) ≡ true → (before : List (List ℕ)) (xs : List Rank) → count_key key k (kept_behind most key before xs) ≡ count_key key k xs
    behind_all none before [] = refl
    behind_all none before (x ∷ xs) =
        empty_step x (kept_behind most key (key x ∷ before) xs) (kept_behind most key before xs) xs
        (is_kept most (key x) before) (bytes_eq (key x) k) refl (behind_all none (key x ∷ before) xs) (behind_all none before xs) (test_is x before true none)

    behind_number : (xs : List Rank) (none : Bool) → (length k == 0) ≡ none → count_key key k (kept_behind most key [] xs) ≡ (cond none (count_key key k xs) (min most (count_key key k xs)))
    behind_number xs true e = behind_all e [] xs
    behind_number xs false e = behind_is e [] xs ∙ omega arith

  -- the matches of this key
  abbrev own : List Rank → List Rank
  own xs = filter (λ x. bytes_eq (key x) k) xs

  own_more : (x : Rank) (xs : List Rank) (same : Bool) → bytes_eq (key x) k ≡ same → own (x ∷ xs) ≡ cond same (x ∷ own xs) (own xs)
  own_more x xs same e = ap (λ b. cond b (x ∷ own xs) (own xs)) e

  take_one : (x : Rank) (xs : List Rank) (m n : ℕ) → n ≡ suc m → take n (x ∷ xs) ≡ x ∷ take m xs
  take_one x xs m n e = ap (λ i. take i (x ∷ xs)) e

  take_none : (xs : List Rank) (n : ℕ) → n ≡ 0 → take n xs ≡ []
  take_none xs n e = ap (λ i. take i xs) e

  own_step : (x : Rank) (more less xs : List Rank) (most n m : ℕ) (is same : Bool)
      → bytes_eq (key x) k ≡ same
      → own more ≡ take (most - m) (own xs)
      → own less ≡ take (most - n) (own xs)
      → m ≡ cond same 1 0 + n
      → (same ≡ true → is ≡ nat_lt n most)
      → own (cond is (x ∷ more) less) ≡ take (most - n) (own (x ∷ xs))
  own_step x more less xs most n m true true e h g before test =
      let room : n < most = ltb-true n most (sym (test refl)) in
      own_more x more true e ∙ ap (λ ys. x ∷ ys) h ∙ sym (take_one x (own xs) (most - m) (most - n) (omega (arith, room, before))) ∙ ap (take (most - n)) (sym (own_more x xs true e))
  own_step x more less xs most n m true false e h g before test =
      let same : most - m ≡ most - n = omega (arith, before) in
      own_more x more false e ∙ h ∙ ap (λ i. take i (own xs)) same ∙ ap (take (most - n)) (sym (own_more x xs false e))
  own_step x more less xs most n m false true e h g before test =
      let full : most ≤ n = ltb-false n most (sym (test refl)) in
      g ∙ take_none (own xs) (most - n) (omega (arith, full)) ∙ sym (take_none (own (x ∷ xs)) (most - n) (omega (arith, full)))
  own_step x more less xs most n m false false e h g before test = g ∙ ap (take (most - n)) (sym (own_more x xs false e))

  own_empty : (x : Rank) (more less xs : List Rank) (is same : Bool)
      → bytes_eq (key x) k ≡ same → own more ≡ own xs → own less ≡ own xs → (same ≡ true → is ≡ true) → own (cond is (x ∷ more) less) ≡ own (x ∷ xs)
  own_empty x more less xs true true e h g test = own_more x more true e ∙ ap (λ ys. x ∷ ys) h ∙ sym (own_more x xs true e)
  own_empty x more less xs true false e h g test = own_more x more false e ∙ h ∙ sym (own_more x xs false e)
  own_empty x more less xs false true e h g test = absurd (true≢false (sym (test refl)))
  own_empty x more less xs false false e h g test = g ∙ sym (own_more x xs false e)

  module _ (most : ℕ) where
    own_behind : (length k == 0) ≡ false → (before : List (List ℕ)) (xs : List Rank) → own (kept_behind most key before xs) ≡ take (most - count_by (bytes_eq k) before) (own xs)
    own_behind some before [] = sym (take_nil (most - count_by (bytes_eq k) before))
      where
        take_nil : (n : ℕ) → take n (own []) ≡ []
        take_nil zero = refl
        take_nil (suc n) = refl
    own_behind some before (x ∷ xs) =
        own_step x (kept_behind most key (key x ∷ before) xs) (kept_behind most key before xs) xs most (count_by (bytes_eq k) before) (count_by (bytes_eq k) (key x ∷ before))
        (is_kept most (key x) before) (bytes_eq (key x) k) refl (own_behind some (key x ∷ before) xs) (own_behind some before xs) (before_more most x before) (test_is most x before false some)

    own_all : (length k == 0) ≡ true → (before : List (List ℕ)) (xs : List Rank) → own (kept_behind most key before xs) ≡ own xs
    own_all none before [] = refl
    own_all none before (x ∷ xs) =
        own_empty x (kept_behind most key (key x ∷ before) xs) (kept_behind most key before xs) xs
        (is_kept most (key x) before) (bytes_eq (key x) k) refl (own_all none (key x ∷ before) xs) (own_all none before xs) (test_is most x before true none)

    own_kept : (xs : List Rank) (none : Bool) → (length k == 0) ≡ none → own (kept_behind most key [] xs) ≡ (if none then own xs else take most (own xs))
    own_kept xs true e = own_all e [] xs
    own_kept xs false e = let same : most - 0 ≡ most = omega arith in own_behind e [] xs ∙ ap (λ i. take i (own xs)) same

  in_order : (order : Order) (ranks : List Rank) → count_key key k (best_first order ranks) ≡ count_key key k ranks
  in_order order ranks = sum_by-IsPermutation (λ y. cond (bytes_eq (key y) k) 1 0) ranks (best_first order ranks) (ordered_permutation (is_before order) ranks)

-- of each key as many are kept
pub kept_each : (order : Order) (collapse : Collapse) (key : Rank → List ℕ) (k : List ℕ) (ranks : List Rank) → count_key key k (kept order (Some collapse) key ranks) ≡ kept_number collapse.max k (count_key key k ranks)
kept_each order collapse key k ranks =
    behind_number key k collapse.max (best_first order ranks) (length k == 0) refl
    ∙ ap (kept_number collapse.max k) (in_order key k order ranks)

-- those of a key that are kept are the first of its best
pub kept_of_key : (order : Order) (collapse : Collapse) (key : Rank → List ℕ) (k : List ℕ) (ranks : List Rank)
    → filter (λ x. bytes_eq (key x) k) (kept order (Some collapse) key ranks) ≡ kept_first collapse.max k (filter (λ x. bytes_eq (key x) k) (best_first order ranks))
kept_of_key order collapse key k ranks = own_kept key k collapse.max (best_first order ranks) (length k == 0) refl

-- ---- all keys

module _ (key : Rank → List ℕ) where
  -- without the first of a key
  abbrev without_one : List ℕ → List Rank → List Rank
  without_one k [] = []
  without_one k (y ∷ ys) = cond (bytes_eq (key y) k) ys (y ∷ without_one k ys)

  shorter_step : (y : Rank) (ys less : List Rank) (k : List ℕ) (same : Bool) → bytes_eq (key y) k ≡ same → 0 < cond same 1 0 + count_key key k ys → (0 < count_key key k ys → length ys ≡ suc (length less))
      → suc (length ys) ≡ suc (length (cond same ys (y ∷ less)))
  shorter_step y ys less k true e some h = refl
  shorter_step y ys less k false e some h = ap suc (h (omega arith))

  shorter : (k : List ℕ) (ys : List Rank) → 0 < count_key key k ys → length ys ≡ suc (length (without_one k ys))
  shorter k [] some = absurd (omega arith)
  shorter k (y ∷ ys) some =
      shorter_step y ys (without_one k ys) k (bytes_eq (key y) k) refl (subst (λ n. 0 < n) (counted key k y ys (bytes_eq (key y) k) refl) some) (shorter k ys)

  fewer_step : (y : Rank) (ys less : List Rank) (k j : List ℕ) (same : Bool) → bytes_eq (key y) k ≡ same → 0 < cond same 1 0 + count_key key k ys
      → (0 < count_key key k ys → count_key key j ys ≡ cond (bytes_eq k j) 1 0 + count_key key j less)
      → count_key key j (y ∷ ys) ≡ cond (bytes_eq k j) 1 0 + count_key key j (cond same ys (y ∷ less))
  fewer_step y ys less k j true e some h = counted key j y ys (bytes_eq k j) (ap (λ i. bytes_eq i j) ((bytes_decides (key y) k).0 e))
  fewer_step y ys less k j false e some h =
      let rest : count_key key j ys ≡ cond (bytes_eq k j) 1 0 + count_key key j less = h (omega arith) in
      omega (arith, rest, counted key j y ys (bytes_eq (key y) j) refl, counted key j y less (bytes_eq (key y) j) refl)

  fewer_one : (k j : List ℕ) (ys : List Rank) → 0 < count_key key k ys → count_key key j ys ≡ cond (bytes_eq k j) 1 0 + count_key key j (without_one k ys)
  fewer_one k j [] some = absurd (omega arith)
  fewer_one k j (y ∷ ys) some =
      fewer_step y ys (without_one k ys) k j (bytes_eq (key y) k) refl (subst (λ n. 0 < n) (counted key k y ys (bytes_eq (key y) k) refl) some) (fewer_one k j ys)

  below : (a b m n : ℕ) → m ≡ a + b → n ≡ a + b → m ≤ n
  below a b m n e f = omega arith

  -- where no key occurs more often, there are no more
  pub fewer : (xs ys : List Rank) → ((k : List ℕ) → count_key key k xs ≤ count_key key k ys) → length xs ≤ length ys
  fewer [] ys h = omega arith
  fewer (x ∷ xs) ys h =
      let own : count_key key (key x) (x ∷ xs) ≡ 1 + count_key key (key x) xs = counted key (key x) x xs true ((bytes_decides (key x) (key x)).1 refl) in
      let some : 0 < count_key key (key x) ys = omega (arith, own, h (key x)) in
      let rest : length xs ≤ length (without_one (key x) ys) = fewer xs (without_one (key x) ys) (λ j. omega (arith, h j, counted key j x xs (bytes_eq (key x) j) refl, fewer_one (key x) j ys some)) in
      omega (arith, rest, shorter (key x) ys some)

number_up : (most m n : ℕ) (none : Bool) → m ≤ n → cond none m (min most m) ≤ cond none n (min most n)
number_up most m n true h = h
number_up most m n false h = omega arith

pub kept_up : (order other : Order) (collapse : Option Collapse) (key : Rank → List ℕ) (ranks more : List Rank) → length ranks ≤ length more → ((k : List ℕ) → count_key key k ranks ≤ count_key key k more)
    → length (kept order collapse key ranks) ≤ length (kept other collapse key more)
kept_up order other None key ranks more long h = omega (arith, length-ordered (is_before order) ranks, length-ordered (is_before other) more, long)
kept_up order other (Some collapse) key ranks more long h =
    fewer key (kept order (Some collapse) key ranks) (kept other (Some collapse) key more)
    (λ k. omega (arith, kept_each order collapse key k ranks, kept_each other collapse key k more, number_up collapse.max (count_key key k ranks) (count_key key k more) (length k == 0) (h k)))

equal_both : (m n : ℕ) → m ≤ n → n ≤ m → m ≡ n
equal_both m n h g = omega arith

at_most_equal : (m n : ℕ) → m ≡ n → m ≤ n
at_most_equal m n e = omega arith

-- where each key occurs equally often, equally many are kept
pub kept_alike : (order other : Order) (collapse : Option Collapse) (key : Rank → List ℕ) (ranks more : List Rank) → ((k : List ℕ) → count_key key k ranks ≡ count_key key k more)
    → length (kept order collapse key ranks) ≡ length (kept other collapse key more)
kept_alike order other collapse key ranks more h =
    let up = fewer key ranks more (λ k. at_most_equal _ _ (h k)) in
    let down = fewer key more ranks (λ k. at_most_equal _ _ (sym (h k))) in
    equal_both _ _ (kept_up order other collapse key ranks more up (λ k. at_most_equal _ _ (h k))) (kept_up other order collapse key more ranks down (λ k. at_most_equal _ _ (sym (h k))))

-- of a front no more are kept
pub kept_front : (order : Order) (collapse : Option Collapse) (key : Rank → List ℕ) (n : ℕ) (ranks : List Rank) → length (kept order collapse key (take n ranks)) ≤ length (kept order collapse key ranks)
kept_front order collapse key n ranks =
    let short : length (take n ranks) ≡ min n (length ranks) = length-take n ranks in
    kept_up order order collapse key (take n ranks) ranks (omega (arith, short)) (λ k. sum_by-take-le (λ x. cond (bytes_eq (key x) k) 1 0) ranks n)

-- ---- a front and the others

number_more : (most front others : ℕ) (none : Bool) → cond none (front + others) (min most (front + others)) ≤ cond none front (min most front) + others
number_more most front others true = omega arith
number_more most front others false = omega arith

length_both : (xs ys : List Rank) → length (xs ++ ys) ≡ length xs + length ys
length_both [] ys = omega arith
length_both (x ∷ xs) ys = let rest = length_both xs ys in omega (arith, rest)

-- of all no more are kept than of a front, and all the others
pub kept_others : (order : Order) (collapse : Option Collapse) (key : Rank → List ℕ) (n : ℕ) (ranks : List Rank) → length (kept order collapse key ranks) ≤ length (kept order collapse key (take n ranks)) + length (drop n ranks)
kept_others order None key n ranks = omega (arith, length-ordered (is_before order) ranks, length-ordered (is_before order) (take n ranks), length-take n ranks, length-drop n ranks)
kept_others order (Some collapse) key n ranks =
    let front : List Rank = kept order (Some collapse) key (take n ranks) in
    let all : length (kept order (Some collapse) key ranks) ≤ length (front ++ drop n ranks) =
    fewer key (kept order (Some collapse) key ranks) (front ++ drop n ranks)
    (λ k.
    let f : Rank → ℕ = λ x. cond (bytes_eq (key x) k) 1 0 in
    let whole : count_key key k ranks ≡ count_key key k (take n ranks) + count_key key k (drop n ranks) = sym (sum_by-take-drop f ranks n) in
    omega (
      arith,
      kept_each order collapse key k ranks ∙ ap (kept_number collapse.max k) whole,
      kept_each order collapse key k (take n ranks),
      number_more collapse.max (count_key key k (take n ranks)) (count_key key k (drop n ranks)) (length k == 0),
      sum_by-append f front (drop n ranks),
    )) in
    omega (arith, all, length_both front (drop n ranks))

dropped_step : (none : Bool) (most c d m n : ℕ) → m ≤ n → c ≡ cond none m (min most m) → d ≡ cond none n (min most n) → cond none 0 (m - c) ≤ cond none 0 (n - d)
dropped_step true most c d m n h e g = omega arith
dropped_step false most c d m n h e g = omega (arith, h, e, g)

all_step : (none : Bool) (c d m n : ℕ) → c ≡ m → d ≡ n → cond none 0 (m - c) ≤ cond none 0 (n - d)
all_step true c d m n e g = omega arith
all_step false c d m n e g = omega (arith, e, g)

-- of no key fewer are dropped of all than of a front
pub dropped_front : (order : Order) (collapse : Option Collapse) (key : Rank → List ℕ) (k : List ℕ) (n : ℕ) (ranks : List Rank) → dropped order collapse key k (take n ranks) ≤ dropped order collapse key k ranks
dropped_front order None key k n ranks =
    all_step (length k == 0) (count_key key k (best_first order (take n ranks))) (count_key key k (best_first order ranks)) (count_key key k (take n ranks)) (count_key key k ranks)
    (in_order key k order (take n ranks)) (in_order key k order ranks)
dropped_front order (Some collapse) key k n ranks =
    dropped_step (length k == 0) collapse.max (count_key key k (kept order (Some collapse) key (take n ranks))) (count_key key k (kept order (Some collapse) key ranks)) (count_key key k (take n ranks)) (count_key key k ranks)
    (sum_by-take-le (λ x. cond (bytes_eq (key x) k) 1 0) ranks n) (kept_each order collapse key k (take n ranks)) (kept_each order collapse key k ranks)

number_few : (most n : ℕ) (none : Bool) → cond none n (min most n) ≤ n
number_few most n true = omega arith
number_few most n false = omega arith

-- no more are kept than there are
pub kept_few : (order : Order) (collapse : Option Collapse) (key : Rank → List ℕ) (ranks : List Rank) → length (kept order collapse key ranks) ≤ length ranks
kept_few order None key ranks = omega (arith, length-ordered (is_before order) ranks)
kept_few order (Some collapse) key ranks =
    fewer key (kept order (Some collapse) key ranks) ranks (λ k. omega (arith, kept_each order collapse key k ranks, number_few collapse.max (count_key key k ranks) (length k == 0)))
