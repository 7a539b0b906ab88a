-- Scores put together: in any order, in pieces, and without those that are not there.
use Rattle.std.proofs.Common.{◌≡◌, ◌<◌, ◌+◌, ℕ, zero, suc, max, Bool, true, false, cond, ◌==◌, List, [], ◌∷◌, ◌++◌, length, get_or, set, filter, Option, Some, None, is_some, is_none, IsPermutation, count_by, fold, refl, sym, ap, ◌∙◌, arith, true≢false}
use Rattle.std.proofs.lemmas.Bool.Decides.{nat_tests}
use Rattle.std.proofs.lemmas.List.Sorted.{IsPermutation-keeps, sum_by-IsPermutation}
use Rattle.std.proofs.lemmas.List.Edits.{swap_is}
use Rattle.std.proofs.lemmas.List.Sums.{sum_by-cons}
use Rattle.std.specs.List.{list_all}
use Rattle.sk_query.specs.declared.form.Form.{Form}
use Rattle.sk_model.specs.Combining.{folded, both, either, greater, sum_of_all, sum_of_any, greatest_score, number_matching, where_so, with_more, is_odd, combined}

-- ---- a list taken together by an operation that minds no order

module _ {A : Type 0} (two : A → A → A) (none : A) (apart : (a b c : A) → two (two a b) c ≡ two a (two b c)) where
  -- two lists, one behind the other
  pub folded-append : ((b : A) → two none b ≡ b) → (xs ys : List A) → folded two none (xs ++ ys) ≡ two (folded two none xs) (folded two none ys)
  folded-append start [] ys = sym (start (folded two none ys))
  folded-append start (x ∷ xs) ys = ap (two x) (folded-append start xs ys) ∙ sym (apart x (folded two none xs) (folded two none ys))

  module _ (turned : (a b : A) → two a b ≡ two b a) where
    front : (a b c : A) → two a (two b c) ≡ two b (two a c)
    front a b c = sym (apart a b c) ∙ ap (λ d. two d c) (turned a b) ∙ apart b a c

    -- an element that changes places with one before the list
    moved : (x : A) (xs : List A) (i : ℕ) (d : A) → i < length xs → two (get_or xs i d) (folded two none (set xs i x)) ≡ two x (folded two none xs)
    moved x [] i d h = absurd (omega arith)
    moved x (y ∷ xs) zero d h = front y x (folded two none xs)
    moved x (y ∷ xs) (suc i) d h = front (get_or xs i d) y (folded two none (set xs i x)) ∙ ap (two y) (moved x xs i d (omega arith)) ∙ front y x (folded two none xs)

    swapped : (xs : List A) (i j : ℕ) (d : A) → i < length xs → j < length xs → folded two none (set (set xs i (get_or xs j d)) j (get_or xs i d)) ≡ folded two none xs
    swapped [] i j d p q = absurd (omega arith)
    swapped (x ∷ xs) zero zero d p q = refl
    swapped (x ∷ xs) zero (suc j) d p q = moved x xs j d (omega arith)
    swapped (x ∷ xs) (suc i) zero d p q = moved x xs i d (omega arith)
    swapped (x ∷ xs) (suc i) (suc j) d p q = ap (two x) (swapped xs i j d (omega arith) (omega arith))

    -- the order does not matter
    pub folded-permutation : (xs ys : List A) → IsPermutation xs ys → folded two none ys ≡ folded two none xs
    folded-permutation xs ys same =
        IsPermutation-keeps xs (λ l. folded two none l ≡ folded two none xs) refl
        (λ l i j p q h. ap (folded two none) (sym (swap_is l i j none p q)) ∙ swapped l i j none p q ∙ h) ys same

  -- what a loop from the front makes
  pub folded-fold : ((a : A) → two a none ≡ a) → (a : A) (xs : List A) → fold two a xs ≡ two a (folded two none xs)
  folded-fold end a [] = sym (end a)
  folded-fold end a (x ∷ xs) = folded-fold end (two a x) xs ∙ apart a x (folded two none xs)

-- ---- the three operations

pub both-start : (b : Option ℕ) → both (Some 0) b ≡ b
both-start None = refl
both-start (Some w) = let e : 0 + w ≡ w = omega arith in ap Some e

pub both-end : (a : Option ℕ) → both a (Some 0) ≡ a
both-end None = refl
both-end (Some v) = let e : v + 0 ≡ v = omega arith in ap Some e

pub both-none : (a : Option ℕ) → both a None ≡ None
both-none None = refl
both-none (Some v) = refl

pub both-apart : (a b c : Option ℕ) → both (both a b) c ≡ both a (both b c)
both-apart None b c = refl
both-apart (Some u) None c = refl
both-apart (Some u) (Some v) None = refl
both-apart (Some u) (Some v) (Some w) = let e : (u + v) + w ≡ u + (v + w) = omega arith in ap Some e

pub both-turned : (a b : Option ℕ) → both a b ≡ both b a
both-turned None None = refl
both-turned None (Some w) = refl
both-turned (Some v) None = refl
both-turned (Some v) (Some w) = let e : v + w ≡ w + v = omega arith in ap Some e

pub either-end : (a : Option ℕ) → either a None ≡ a
either-end None = refl
either-end (Some v) = refl

pub either-apart : (a b c : Option ℕ) → either (either a b) c ≡ either a (either b c)
either-apart None b c = refl
either-apart (Some u) None c = refl
either-apart (Some u) (Some v) None = refl
either-apart (Some u) (Some v) (Some w) = let e : (u + v) + w ≡ u + (v + w) = omega arith in ap Some e

pub either-turned : (a b : Option ℕ) → either a b ≡ either b a
either-turned None None = refl
either-turned None (Some w) = refl
either-turned (Some v) None = refl
either-turned (Some v) (Some w) = let e : v + w ≡ w + v = omega arith in ap Some e

pub greater-end : (a : Option ℕ) → greater a None ≡ a
greater-end None = refl
greater-end (Some v) = refl

pub greater-apart : (a b c : Option ℕ) → greater (greater a b) c ≡ greater a (greater b c)
greater-apart None b c = refl
greater-apart (Some u) None c = refl
greater-apart (Some u) (Some v) None = refl
greater-apart (Some u) (Some v) (Some w) = let e : max (max u v) w ≡ max u (max v w) = omega arith in ap Some e

pub greater-turned : (a b : Option ℕ) → greater a b ≡ greater b a
greater-turned None None = refl
greater-turned None (Some w) = refl
greater-turned (Some v) None = refl
greater-turned (Some v) (Some w) = let e : max v w ≡ max w v = omega arith in ap Some e

-- ---- in pieces

pub sum_of_all-append : (xs ys : List (Option ℕ)) → sum_of_all (xs ++ ys) ≡ both (sum_of_all xs) (sum_of_all ys)
sum_of_all-append = folded-append both (Some 0) both-apart both-start

pub sum_of_any-append : (xs ys : List (Option ℕ)) → sum_of_any (xs ++ ys) ≡ either (sum_of_any xs) (sum_of_any ys)
sum_of_any-append = folded-append either None either-apart (λ b. refl)

pub greatest_score-append : (xs ys : List (Option ℕ)) → greatest_score (xs ++ ys) ≡ greater (greatest_score xs) (greatest_score ys)
greatest_score-append = folded-append greater None greater-apart (λ b. refl)

plus_apart : (a b c : ℕ) → a + (b + c) ≡ (a + b) + c
plus_apart a b c = omega arith

pub number_matching-append : (xs ys : List (Option ℕ)) → number_matching (xs ++ ys) ≡ number_matching xs + number_matching ys
number_matching-append [] ys = omega arith
number_matching-append (s ∷ xs) ys = ap (λ n. cond (is_some s) 1 0 + n) (number_matching-append xs ys) ∙ plus_apart (cond (is_some s) 1 0) (number_matching xs) (number_matching ys)

-- ---- in any order

pub sum_of_all-permutation : (xs ys : List (Option ℕ)) → IsPermutation xs ys → sum_of_all ys ≡ sum_of_all xs
sum_of_all-permutation = folded-permutation both (Some 0) both-apart both-turned

pub sum_of_any-permutation : (xs ys : List (Option ℕ)) → IsPermutation xs ys → sum_of_any ys ≡ sum_of_any xs
sum_of_any-permutation = folded-permutation either None either-apart either-turned

pub greatest_score-permutation : (xs ys : List (Option ℕ)) → IsPermutation xs ys → greatest_score ys ≡ greatest_score xs
greatest_score-permutation = folded-permutation greater None greater-apart greater-turned

pub number_matching-counted : (xs : List (Option ℕ)) → number_matching xs ≡ count_by is_some xs
number_matching-counted [] = refl
number_matching-counted (s ∷ xs) = ap (λ n. cond (is_some s) 1 0 + n) (number_matching-counted xs) ∙ sym (sum_by-cons (λ s. cond (is_some s) 1 0) s xs)

pub number_matching-permutation : (xs ys : List (Option ℕ)) → IsPermutation xs ys → number_matching ys ≡ number_matching xs
number_matching-permutation xs ys same = number_matching-counted ys ∙ sum_by-IsPermutation (λ s. cond (is_some s) 1 0) xs ys same ∙ sym (number_matching-counted xs)

pub combined-permutation : (form : Form) (s : Option ℕ) (xs ys : List (Option ℕ)) → IsPermutation xs ys → combined form (s ∷ ys) ≡ combined form (s ∷ xs)
combined-permutation Form.And s xs ys same = ap (both s) (sum_of_all-permutation xs ys same)
combined-permutation Form.Or s xs ys same = ap (either s) (sum_of_any-permutation xs ys same)
combined-permutation Form.Xor s xs ys same = λ i. where_so (is_odd (cond (is_some s) 1 0 + number_matching-permutation xs ys same i)) (either s (sum_of_any-permutation xs ys same i))
combined-permutation Form.Max s xs ys same = ap (greater s) (greatest_score-permutation xs ys same)
combined-permutation Form.AndNot s xs ys same = ap (λ n. where_so (n == 0) s) (number_matching-permutation xs ys same)
combined-permutation Form.AndMaybe s xs ys same = ap (with_more s) (sum_of_any-permutation xs ys same)
combined-permutation Form.Filter s xs ys same = ap (λ o. where_so (is_some o) s) (sum_of_all-permutation xs ys same)

-- ---- those that are there

pub sum_of_any-there : (xs : List (Option ℕ)) → sum_of_any (filter is_some xs) ≡ sum_of_any xs
sum_of_any-there [] = refl
sum_of_any-there (None ∷ xs) = sum_of_any-there xs
sum_of_any-there (Some v ∷ xs) = ap (either (Some v)) (sum_of_any-there xs)

pub greatest_score-there : (xs : List (Option ℕ)) → greatest_score (filter is_some xs) ≡ greatest_score xs
greatest_score-there [] = refl
greatest_score-there (None ∷ xs) = greatest_score-there xs
greatest_score-there (Some v ∷ xs) = ap (greater (Some v)) (greatest_score-there xs)

nothing_more : (n : ℕ) → n ≡ 0 + n
nothing_more n = omega arith

pub number_matching-there : (xs : List (Option ℕ)) → number_matching (filter is_some xs) ≡ number_matching xs
number_matching-there [] = refl
number_matching-there (None ∷ xs) = number_matching-there xs ∙ nothing_more (number_matching xs)
number_matching-there (Some v ∷ xs) = ap (λ n. 1 + n) (number_matching-there xs)

some_more : (n : ℕ) → ((1 + n) == 0) ≡ false
some_more n = grind (arith, nat_tests)

some_either : (v : ℕ) (b : Option ℕ) → is_some (either (Some v) b) ≡ true
some_either v None = refl
some_either v (Some w) = refl

some_greater : (v : ℕ) (b : Option ℕ) → is_some (greater (Some v) b) ≡ true
some_greater v None = refl
some_greater v (Some w) = refl

not_none : (b : Option ℕ) → is_some b ≡ true → false ≡ is_none b
not_none None e = absurd (true≢false (sym e))
not_none (Some v) e = refl

pub none_there : (xs : List (Option ℕ)) → (number_matching xs == 0) ≡ is_none (sum_of_any xs)
none_there [] = refl
none_there (None ∷ xs) = ap (λ n. n == 0) (sym (nothing_more (number_matching xs))) ∙ none_there xs
none_there (Some v ∷ xs) = some_more (number_matching xs) ∙ not_none (sum_of_any (Some v ∷ xs)) (some_either v (sum_of_any xs))

pub greatest_is_there : (xs : List (Option ℕ)) → is_some (greatest_score xs) ≡ is_some (sum_of_any xs)
greatest_is_there [] = refl
greatest_is_there (None ∷ xs) = greatest_is_there xs
greatest_is_there (Some v ∷ xs) = some_greater v (greatest_score xs) ∙ sym (some_either v (sum_of_any xs))

pub all_step : (v : ℕ) (b : Option ℕ) → is_some (both (Some v) b) ≡ is_some b
all_step v None = refl
all_step v (Some w) = refl

pub all_are_there : (xs : List (Option ℕ)) → is_some (sum_of_all xs) ≡ list_all is_some xs
all_are_there [] = refl
all_are_there (None ∷ xs) = refl
all_are_there (Some v ∷ xs) = all_step v (sum_of_all xs) ∙ all_are_there xs

so_is : (test : Bool) (v : ℕ) (b : Option ℕ) → both (Some v) (where_so test b) ≡ where_so test (both (Some v) b)
so_is true v b = refl
so_is false v b = refl

there_both : (test : Bool) (v : ℕ) (b : Option ℕ) → (test ≡ true → is_some b ≡ true) → where_so test (both (Some v) b) ≡ where_so test (either (Some v) b)
there_both true v None h = absurd (true≢false (sym (h refl)))
there_both true v (Some w) h = refl
there_both false v b h = refl

any_first : (s : Option ℕ) (xs : List (Option ℕ)) → list_all is_some (s ∷ xs) ≡ true → is_some (sum_of_any (s ∷ xs)) ≡ true
any_first None xs e = absurd (true≢false (sym e))
any_first (Some v) xs e = some_either v (sum_of_any xs)

-- where all are there, the sum over all is the sum over any
pub all_as_any : (s : Option ℕ) (xs : List (Option ℕ)) → sum_of_all (s ∷ xs) ≡ where_so (list_all is_some (s ∷ xs)) (sum_of_any (s ∷ xs))
all_as_any None xs = refl
all_as_any (Some v) [] = both-end (Some v)
all_as_any (Some v) (s ∷ xs) =
    ap (both (Some v)) (all_as_any s xs)
    ∙ so_is (list_all is_some (s ∷ xs)) v (sum_of_any (s ∷ xs))
    ∙ there_both (list_all is_some (s ∷ xs)) v (sum_of_any (s ∷ xs)) (any_first s xs)

pub not_others : (s : Option ℕ) (xs : List (Option ℕ)) → combined Form.AndNot (s ∷ xs) ≡ where_so (is_none (combined Form.Or xs)) s
not_others s xs = ap (λ test. where_so test s) (none_there xs)
