-- How many of the matches weigh so much, among those that were seen and on the page.
use Rattle.std.proofs.Common.{◌≡◌, ◌≤◌, ◌<◌, ◌+◌, ◌⊎◌, ℕ, zero, suc, Bool, true, false, cond, nat_le, List, [], ◌∷◌, ◌++◌, length, take, drop, filter, sum_by, refl, sym, ap, ◌∙◌, arith, inl, inr}
use Rattle.std.specs.List.{AllByRecursion, list_all}
use Rattle.std.proofs.lemmas.List.{take-append-drop}
use Rattle.std.proofs.lemmas.List.Elements.{filter-append}
use Rattle.std.proofs.lemmas.List.Sums.{sum_by-cons, sum_by-append}
use Rattle.std.proofs.lemmas.List.Sorted.{sum_by-IsPermutation}
use Rattle.std.proofs.lemmas.Bool.{and_parts, le-leb, leb-false, leb-true, lt-leb}
use Rattle.sk_base.specs.declared.rank.Rank.{Rank}
use Rattle.sk_base.specs.declared.rank.Order.{Order}
use Rattle.sk_base.specs.Before.{is_before}
use Rattle.sk_model.specs.Page.{best_first}
use Rattle.sk_model.proofs.OrderLaws.{NoneBefore, Rises, rises_best_first}
use Rattle.sk_model.proofs.PlacedLaws.{ordered_permutation}
use Rattle.sk_heap.proofs.HeapLaws.{is_weighed, no_lighter, no_heavier}
use Rattle.sk_page.specs.Shown.{is_behind_page, Shown}
use Rattle.sk_page.proofs.ShownLaws.{shown_front}
use Rattle.sk_page.proofs.FrontLaws.{ahead, front_best, held_ahead}

-- How many weigh so much.
abbrev pub heavy : ℕ → List Rank → ℕ
heavy weight ranks = sum_by (λ r. cond (nat_le weight r.weight) 1 0) ranks

-- Each of them does.
abbrev pub AllHeavy : ℕ → List Rank → Type 0
AllHeavy weight ranks = AllByRecursion (λ (r : Rank). weight ≤ r.weight) ranks

module _ (weight : ℕ) where
  pub heavy_more : (x : Rank) (xs : List Rank) (h : Bool) → nat_le weight x.weight ≡ h → heavy weight (x ∷ xs) ≡ cond h 1 0 + heavy weight xs
  heavy_more x xs h e = sum_by-cons (λ (r : Rank). cond (nat_le weight r.weight) 1 0) x xs ∙ ap (λ b. cond b 1 0 + heavy weight xs) e

  heavy_append : (xs ys : List Rank) → heavy weight (xs ++ ys) ≡ heavy weight xs + heavy weight ys
  heavy_append xs ys = sum_by-append (λ (r : Rank). cond (nat_le weight r.weight) 1 0) xs ys

  heavy_best : (order : Order) (xs : List Rank) → heavy weight xs ≡ heavy weight (best_first order xs)
  heavy_best order xs = sym (sum_by-IsPermutation (λ (r : Rank). cond (nat_le weight r.weight) 1 0) xs (best_first order xs) (ordered_permutation (is_before order) xs))

  heavy_filter : (p : Rank → Bool) (xs : List Rank) → heavy weight (filter p xs) ≤ heavy weight xs
  heavy_filter p [] = omega arith
  heavy_filter p (x ∷ xs) = step (p x) (nat_le weight x.weight) refl (heavy_filter p xs)
    where
      step : (b h : Bool) → nat_le weight x.weight ≡ h → heavy weight (filter p xs) ≤ heavy weight xs → heavy weight (cond b (x ∷ filter p xs) (filter p xs)) ≤ heavy weight (x ∷ xs)
      step true h e less = omega (arith, less, heavy_more x (filter p xs) h e, heavy_more x xs h e)
      step false true e less = omega (arith, less, heavy_more x xs true e)
      step false false e less = omega (arith, less, heavy_more x xs false e)

  all_counted : (xs : List Rank) → AllHeavy weight xs → heavy weight xs ≡ length xs
  all_counted [] h = refl
  all_counted (x ∷ xs) h = omega (arith, heavy_more x xs true (le-leb weight x.weight h.0), all_counted xs h.1)

  -- what was seen of heavy ones: as many, or one of them is behind
  abbrev OneBehind : (Rank → Bool) → Type 0
  OneBehind behind = (r : Rank) × (weight ≤ r.weight) × (behind r ≡ true)

  heavy_shown : (behind : Rank → Bool) (xs ys : List Rank) → Shown behind xs ys → (heavy weight xs ≤ heavy weight ys) ⊎ OneBehind behind
  heavy_shown behind [] ys h = inl (omega arith)
  heavy_shown behind (x ∷ xs) ys (inl h) = over (nat_le weight x.weight) refl (heavy_shown behind xs ys h.1)
    where
      over : (b : Bool) → nat_le weight x.weight ≡ b → (heavy weight xs ≤ heavy weight ys) ⊎ OneBehind behind → (heavy weight (x ∷ xs) ≤ heavy weight ys) ⊎ OneBehind behind
      over true e rest = inr (x, leb-true weight x.weight e, h.0)
      over false e (inl less) = inl (omega (arith, less, heavy_more x xs false e))
      over false e (inr one) = inr one
  heavy_shown behind (x ∷ xs) ys (inr h) = beside h.0 h.1 h.2 h.4 (heavy_shown behind xs h.1 h.5)
    where
      beside : (s : Rank) (more : List Rank) → ys ≡ s ∷ more → (s ≡ x) ⊎ ((behind x ≡ true) × (behind s ≡ true)) → (heavy weight xs ≤ heavy weight more) ⊎ OneBehind behind
          → (heavy weight (x ∷ xs) ≤ heavy weight ys) ⊎ OneBehind behind
      beside s more is how (inr one) = inr one
      beside s more is (inl same) (inl less) =
          let all : heavy weight ys ≡ heavy weight (s ∷ more) = ap (heavy weight) is in
          let same_one : heavy weight (s ∷ more) ≡ heavy weight (x ∷ more) = ap (λ (r : Rank). heavy weight (r ∷ more)) same in
          inl (omega (arith, less, all, same_one, heavy_more x xs (nat_le weight x.weight) refl, heavy_more x more (nat_le weight x.weight) refl))
      beside s more is (inr both) (inl less) = light (nat_le weight x.weight) refl
        where
          light : (b : Bool) → nat_le weight x.weight ≡ b → (heavy weight (x ∷ xs) ≤ heavy weight ys) ⊎ OneBehind behind
          light true e = inr (x, leb-true weight x.weight e, both.0)
          light false e =
              let all : heavy weight ys ≡ heavy weight (s ∷ more) = ap (heavy weight) is in
              inl (omega (arith, less, all, heavy_more x xs false e, heavy_more s more (nat_le weight s.weight) refl))

  module _ (order : Order) (w : is_weighed order.by ≡ true) where
    -- none is heavy behind one that is not
    none_heavy : (x : Rank) (xs : List Rank) → NoneBefore order x xs → x.weight < weight → heavy weight xs ≡ 0
    none_heavy x [] n less = refl
    none_heavy x (y ∷ ys) n less =
        let lower = no_heavier order.by order.falling y x w n.0 in
        omega (arith, heavy_more y ys false (lt-leb weight y.weight (omega (arith, lower, less))), none_heavy x ys n.1 less)

    -- the first so many are heavy, where so many are
    top : (k : ℕ) (xs : List Rank) → Rises order xs → k ≤ heavy weight xs → (k ≤ length xs) × AllHeavy weight (take k xs)
    top zero xs r most = (omega arith, tt)
    top (suc k) [] r most = absurd (omega (arith, most))
    top (suc k) (x ∷ xs) r most = by_first (nat_le weight x.weight) refl (top k xs r.1)
      where
        by_first : (b : Bool) → nat_le weight x.weight ≡ b → (k ≤ heavy weight xs → (k ≤ length xs) × AllHeavy weight (take k xs)) → (suc k ≤ length (x ∷ xs)) × AllHeavy weight (take (suc k) (x ∷ xs))
        by_first true e more = let rest = more (omega (arith, most, heavy_more x xs true e)) in (omega (arith, rest.0), (leb-true weight x.weight e, rest.1))
        by_first false e more = absurd (omega (arith, most, heavy_more x xs false e, none_heavy x xs r.0 (leb-false weight x.weight e)))

    behind_light : (r : Rank) (held : List Rank) → is_behind_page order held r ≡ true → weight ≤ r.weight → AllHeavy weight held
    behind_light r [] e most = tt
    behind_light r (h ∷ held) e most =
        let both = and_parts (is_before order h r) (is_behind_page order held r) e in
        let lower = no_lighter order.by order.falling h r w both.0 in
        (omega (arith, lower, most), behind_light r held both.1 most)

    -- a page is full of heavy ones, where so many were to be seen
    pub filled : (k : ℕ) (found saw : List Rank) → Shown (is_behind_page order (take k (best_first order saw))) found saw → (found ≡ saw) ⊎ (k ≤ length (best_first order saw)) → k ≤ heavy weight found
        → (k ≤ length (best_first order saw)) × AllHeavy weight (take k (best_first order saw))
    filled k found saw shown full most = by_seen (heavy_shown (is_behind_page order (take k (best_first order saw))) found saw shown) full
      where
        by_seen : (heavy weight found ≤ heavy weight saw) ⊎ OneBehind (is_behind_page order (take k (best_first order saw))) → (found ≡ saw) ⊎ (k ≤ length (best_first order saw))
            → (k ≤ length (best_first order saw)) × AllHeavy weight (take k (best_first order saw))
        by_seen (inl less) _ = top k (best_first order saw) (rises_best_first order saw) (omega (arith, less, most, heavy_best order saw))
        by_seen (inr one) (inl same) =
            let all : heavy weight found ≡ heavy weight saw = ap (heavy weight) same in
            top k (best_first order saw) (rises_best_first order saw) (omega (arith, all, most, heavy_best order saw))
        by_seen (inr one) (inr long) = (long, behind_light one.0 (take k (best_first order saw)) one.2 one.1)

    same_filtered : (p : Rank → Bool) (xs : List Rank) → list_all p xs ≡ true → filter p xs ≡ xs
    same_filtered p [] e = refl
    same_filtered p (x ∷ xs) e =
        let both = and_parts (p x) (list_all p xs) e in
        ap (λ b. cond b (x ∷ filter p xs) (filter p xs)) both.0 ∙ ap (λ ys. x ∷ ys) (same_filtered p xs both.1)

    take_long : (k : ℕ) (xs : List Rank) → k ≤ length xs → length (take k xs) ≡ k
    take_long zero xs l = refl
    take_long (suc k) [] l = absurd (omega (arith, l))
    take_long (suc k) (x ∷ xs) l = ap suc (take_long k xs (omega (arith, l)))

    -- a page that is full of heavy ones tells that so many were to be seen
    pub full_of_heavy : (k : ℕ) (found saw : List Rank) → Shown (is_behind_page order (take k (best_first order saw))) found saw → k ≤ length (best_first order saw) → AllHeavy weight (take k (best_first order saw)) → k ≤ heavy weight found
    full_of_heavy k found saw shown long all =
        let best : List Rank = best_first order saw in
        let held : List Rank = take k best in
        let p : Rank → Bool = ahead order held in
        let fewer = heavy_filter p found in
        let same : heavy weight (filter p found) ≡ heavy weight (filter p saw) = ap (heavy weight) (shown_front (is_behind_page order held) found saw shown) in
        let ordered = heavy_best order (filter p saw) in
        let front : heavy weight (filter p best) ≡ heavy weight (best_first order (filter p saw)) = ap (heavy weight) (front_best order held saw) in
        let cut : heavy weight (filter p best) ≡ heavy weight (filter p (held ++ drop k best)) = ap (λ xs. heavy weight (filter p xs)) (sym (take-append-drop k best)) in
        let apart : heavy weight (filter p (held ++ drop k best)) ≡ heavy weight (filter p held ++ filter p (drop k best)) = ap (heavy weight) (filter-append p held (drop k best)) in
        let sum = heavy_append (filter p held) (filter p (drop k best)) in
        let own : heavy weight (filter p held) ≡ heavy weight held = ap (heavy weight) (same_filtered p held (held_ahead order [] held)) in
        omega (arith, fewer, same, ordered, front, cut, apart, sum, own, all_counted held all, take_long k best long)
