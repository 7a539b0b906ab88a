-- The ids of all parts' documents that pass a test, gathered and sorted, are those of all documents.
use Rattle.std.proofs.Common.{◌∙◌, ◌≡◌, ℕ, suc, Bool, true, false, cond, ◌+◌, ◌==◌, ◌<◌, ◌≤◌, ◌⊎◌, inl, inr, List, [], ◌∷◌, ◌++◌, length, map, filter, sum_by, slice_index_or, refl, sym, ap, arith, subst}
use Rattle.std.specs.List.Sorted.{IsPermutation, IsSorted}
use Rattle.std.specs.Ordering.{nat_cmp, is_lt}
use Rattle.std.proofs.lemmas.Bool.{cases_order}
use Rattle.std.proofs.lemmas.Bool.Decides.{nat_tests}
use Rattle.std.proofs.lemmas.List.Sums.{sum_by-cons, sum_by-append}
use Rattle.std.proofs.lemmas.List.Sorted.{sum_by-IsPermutation}
use Rattle.sk_base.specs.Numbers.{Docs}
use Rattle.sk_base.specs.declared.doc.Doc.{Doc}
use Rattle.sk_sorted.specs.Entries.{RiseAbove, ids_of}
use Rattle.sk_sorted.proofs.EntryLaws.{RiseAbove-lower}
use Rattle.sk_sorted.specs.Joined.{joined_id, under, joined, AllRise}
use Rattle.sk_sorted.proofs.JoinedLaws.{rise-joined}
use Rattle.sk_sorted.proofs.JoinedSumLaws.{sums_from, sum-joined}

-- how often a number stands in a list
abbrev one_if : Bool → ℕ
one_if b = cond b 1 0

abbrev is_at : ℕ → ℕ → ℕ
is_at x y = one_if (y == x)

abbrev pub often : ℕ → List ℕ → ℕ
often x ys = sum_by (is_at x) ys

-- the numbers do not fall, and none is below `low`
abbrev Climbs : ℕ → List ℕ → Type 0
Climbs low [] = Unit {0}
Climbs low (x ∷ xs) = (low ≤ x) × Climbs x xs

never : (x low : ℕ) (ys : List ℕ) → x < low → Climbs low ys → often x ys ≡ 0
never x low [] l up = refl
never x low (y ∷ ys) l up =
    let rest = never x y ys (omega (arith, l, up.0)) up.1 in
    let first : is_at x y ≡ 0 = other (y == x) refl in
    let both = sum_by-cons (is_at x) y ys in
    omega (arith, rest, first, both)
  where
    other : (b : Bool) → (y == x) ≡ b → one_if b ≡ 0
    other true e = let same : y ≡ x = grind (arith, nat_tests) in let low_y = up.0 in absurd (omega (arith, same, l, low_y))
    other false e = refl

here : (x : ℕ) (ys : List ℕ) → often x (x ∷ ys) ≡ 1 + often x ys
here x ys = sum_by-cons (is_at x) x ys ∙ ap (λ b. one_if b + often x ys) (same x)
  where
    same : (n : ℕ) → (n == n) ≡ true
    same n = grind (arith, nat_tests)

-- two lists that climb and have each number equally often are one list
pub climbs_same : (low : ℕ) (xs ys : List ℕ) → Climbs low xs → Climbs low ys → ((n : ℕ) → often n xs ≡ often n ys) → xs ≡ ys
climbs_same low [] [] up down same = refl
climbs_same low [] (y ∷ ys) up down same = let one = here y ys in let e : 0 ≡ often y (y ∷ ys) = same y in absurd (omega (arith, one, e))
climbs_same low (x ∷ xs) [] up down same = let one = here x xs in let e : often x (x ∷ xs) ≡ 0 = same x in absurd (omega (arith, one, e))
climbs_same low (x ∷ xs) (y ∷ ys) up down same = by_order (climbs_same x xs ys up.1) (cases_order x y)
  where
    by_order : (Climbs x ys → ((n : ℕ) → often n xs ≡ often n ys) → xs ≡ ys) → (x ≡ y) ⊎ ((x < y) ⊎ (y < x)) → x ∷ xs ≡ y ∷ ys
    by_order tail (inl is) =
        let rest = tail (subst (λ n. Climbs n ys) (sym is) down.1) (λ n. let a = sum_by-cons (is_at n) x xs in let b = sum_by-cons (is_at n) y ys in let c = same n in let d : is_at n x ≡ is_at n y = ap (is_at n) is in omega (arith, a, b, c, d)) in
        (λ i. is i ∷ rest i)
    by_order tail (inr (inl l)) = let one = here x xs in let none = never x y (y ∷ ys) l (omega arith, down.1) in let c = same x in absurd (omega (arith, one, none, c))
    by_order tail (inr (inr l)) = let one = here y ys in let none = never y x (x ∷ xs) l (omega arith, up.1) in let c = same y in absurd (omega (arith, one, none, c))

-- what is sorted climbs
climbs_sorted : (low : ℕ) (xs : List ℕ) → ((d : ℕ) → 0 < length xs → low ≤ slice_index_or xs 0 d) → IsSorted nat_cmp xs → Climbs low xs
climbs_sorted low [] first sorted = tt
climbs_sorted low (x ∷ xs) first sorted = (first 0 (omega arith), climbs_sorted x xs (λ d some. next d some) (λ k d l m. let up : suc (k + 1) ≡ suc k + 1 = omega arith in ap (λ n. is_lt (nat_cmp (slice_index_or (x ∷ xs) n d) (slice_index_or xs k d))) up ∙ sorted (suc k) d (omega arith) (omega (arith, m))))
  where
    not_less : (a b : ℕ) → is_lt (nat_cmp b a) ≡ false → a ≤ b
    not_less a b e = grind (arith, nat_tests)

    next : (d : ℕ) → 0 < length xs → x ≤ slice_index_or xs 0 d
    next d some = not_less x (slice_index_or xs 0 d) (sorted 0 d (omega arith) (omega (arith, some)))

module _ (h : Doc → Bool) where
  abbrev pub ids : Docs → List ℕ
  ids es = ids_of (filter (λ one. h one.1) es)

  climbs_ids : (low : ℕ) (es : Docs) → RiseAbove low es → Climbs low (ids es)
  climbs_ids low [] up = tt
  climbs_ids low (e ∷ es) up = by_test (h e.1) (climbs_ids e.0 es up.1) (climbs_ids low es (RiseAbove-lower low e.0 es (omega (arith, up.0)) up.1))
    where
      by_test : (b : Bool) → Climbs e.0 (ids es) → Climbs low (ids es) → Climbs low (ids_of (cond b (e ∷ filter (λ one. h one.1) es) (filter (λ one. h one.1) es)))
      by_test true own all = (omega (arith, up.0), own)
      by_test false own all = all

  abbrev counted : ℕ → ℕ × Doc → ℕ
  counted x one = cond (h one.1) (is_at x one.0) 0

  often-ids : (x : ℕ) (es : Docs) → often x (ids es) ≡ sum_by (counted x) es
  often-ids x [] = refl
  often-ids x (e ∷ es) = by_test (h e.1) refl (often-ids x es)
    where
      by_test : (b : Bool) → h e.1 ≡ b → often x (ids es) ≡ sum_by (counted x) es → often x (ids_of (cond b (e ∷ filter (λ one. h one.1) es) (filter (λ one. h one.1) es))) ≡ sum_by (counted x) (e ∷ es)
      by_test true t rest = let a = sum_by-cons (is_at x) e.0 (ids es) in let b = sum_by-cons (counted x) e es in let c : counted x e ≡ is_at x e.0 = ap (λ b. cond b (is_at x e.0) 0) t in omega (arith, a, b, c, rest)
      by_test false t rest = let b = sum_by-cons (counted x) e es in let c : counted x e ≡ 0 = ap (λ b. cond b (is_at x e.0) 0) t in omega (arith, b, c, rest)

  often-under : (x n part : ℕ) (es : Docs) → often x (map (joined_id n part) (ids es)) ≡ sum_by (counted x) (under n part es)
  often-under x n part [] = refl
  often-under x n part (e ∷ es) = by_test (h e.1) refl (often-under x n part es)
    where
      id : ℕ
      id = joined_id n part e.0

      by_test : (b : Bool) → h e.1 ≡ b → often x (map (joined_id n part) (ids es)) ≡ sum_by (counted x) (under n part es)
          → often x (map (joined_id n part) (ids_of (cond b (e ∷ filter (λ one. h one.1) es) (filter (λ one. h one.1) es)))) ≡ sum_by (counted x) ((joined_id n part e.0, e.1) ∷ under n part es)
      by_test true t rest =
          let a = sum_by-cons (is_at x) (joined_id n part e.0) (map (joined_id n part) (ids es)) in
          let b = sum_by-cons (counted x) (joined_id n part e.0, e.1) (under n part es) in
          let c : counted x (joined_id n part e.0, e.1) ≡ is_at x (joined_id n part e.0) = ap (λ b. cond b (is_at x (joined_id n part e.0)) 0) t in
          omega (arith, a, b, c, rest)
      by_test false t rest =
          let b = sum_by-cons (counted x) (joined_id n part e.0, e.1) (under n part es) in
          let c : counted x (joined_id n part e.0, e.1) ≡ 0 = ap (λ b. cond b (is_at x (joined_id n part e.0)) 0) t in
          omega (arith, b, c, rest)

  -- the ids of each part, under joined ids, one part after the other
  abbrev pub gathered : ℕ → ℕ → List Docs → List ℕ
  gathered n part [] = []
  gathered n part (es ∷ parts) = map (joined_id n part) (ids es) ++ gathered n (part + 1) parts

  often-gathered : (x n part : ℕ) (parts : List Docs) → often x (gathered n part parts) ≡ sums_from (counted x) n part parts
  often-gathered x n part [] = refl
  often-gathered x n part (es ∷ parts) =
      let both = sum_by-append (is_at x) (map (joined_id n part) (ids es)) (gathered n (part + 1) parts) in
      omega (arith, both, often-under x n part es, often-gathered x n (part + 1) parts)

  -- sorted, they are those of all
  pub gathered_sorted : (parts : List Docs) (sorted : List ℕ) → AllRise parts → IsPermutation (gathered (length parts) 0 parts) sorted → IsSorted nat_cmp sorted → sorted ≡ ids (joined parts)
  gathered_sorted parts sorted up same in_order =
      climbs_same 0 sorted (ids (joined parts)) (climbs_sorted 0 sorted (λ d _. omega arith) in_order) (climbs_ids 0 (joined parts) (rise-joined parts))
      (λ x. sum_by-IsPermutation (is_at x) (gathered (length parts) 0 parts) sorted same ∙ often-gathered x (length parts) 0 parts ∙ sym (sum-joined (counted x) parts up) ∙ sym (often-ids x (joined parts)))
