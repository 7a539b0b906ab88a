-- What is kept of one match more.
use Rattle.std.proofs.Common.{◌≡◌, ◌≢◌, ◌<◌, ◌≤◌, ◌+◌, ◌-◌, ℕ, zero, suc, Bool, true, false, cond, ◌||◌, ◌==◌, nat_lt, List, [], ◌∷◌, length, take, drop, filter, count_by, bytes_eq, refl, sym, ap, ◌∙◌, subst, arith, true≢false}
use Rattle.std.specs.List.{AllByRecursion}
use Rattle.std.proofs.lemmas.List.Sums.{sum_by-cons}
use Rattle.std.specs.Cmp.Lexicographic.{bytes_decides}
use Rattle.std.proofs.lemmas.Bool.{le-ltb, lt-ltb, or_right}
use Rattle.sk_model.proofs.KeptLaws.{bytes_sym}
use Rattle.sk_base.specs.declared.rank.Rank.{Rank}
use Rattle.sk_base.specs.declared.rank.Order.{Order}
use Rattle.sk_base.specs.Before.{is_before}
use Rattle.sk_model.specs.Page.{place, is_kept, kept_behind}
use Rattle.sk_model.proofs.PlacedLaws.{all_placed}
use Rattle.sk_collapse.proofs.PlacedLaws.{each_filter, each_take, each_drop, Apart, Leads, Strict, Distinct, leads_through, place_front, place_behind, place_before, drop_nil, without, without_none, without_kept, without_first}

-- ---- tests

bytes_same : (a : List ℕ) → bytes_eq a a ≡ true
bytes_same a = (bytes_decides a a).1 refl

-- the number of a key among keys, with one more
counted : (j k : List ℕ) (before : List (List ℕ)) → count_by (bytes_eq j) (k ∷ before) ≡ cond (bytes_eq k j) 1 0 + count_by (bytes_eq j) before
counted j k before = sum_by-cons (λ y. cond (bytes_eq j y) 1 0) k before ∙ ap (λ b. cond b 1 0 + count_by (bytes_eq j) before) (bytes_sym j k)

counted_yes : (j k : List ℕ) (before : List (List ℕ)) → bytes_eq k j ≡ true → count_by (bytes_eq j) (k ∷ before) ≡ suc (count_by (bytes_eq j) before)
counted_yes j k before e = counted j k before ∙ ap (λ b. cond b 1 0 + count_by (bytes_eq j) before) e ∙ omega arith

counted_no : (j k : List ℕ) (before : List (List ℕ)) → bytes_eq k j ≡ false → count_by (bytes_eq j) (k ∷ before) ≡ count_by (bytes_eq j) before
counted_no j k before e = counted j k before ∙ ap (λ b. cond b 1 0 + count_by (bytes_eq j) before) e ∙ omega arith

-- one more of the same key on both sides
counted_both : (j k : List ℕ) (b c : List (List ℕ)) → count_by (bytes_eq j) b ≡ count_by (bytes_eq j) c → count_by (bytes_eq j) (k ∷ b) ≡ count_by (bytes_eq j) (k ∷ c)
counted_both j k b c e = counted j k b ∙ ap (λ n. cond (bytes_eq k j) 1 0 + n) e ∙ sym (counted j k c)

or_step : (none : Bool) (m n most : ℕ) → (none ≡ false → m ≡ n) → (none || nat_lt m most) ≡ (none || nat_lt n most)
or_step true m n most e = refl
or_step false m n most e = ap (λ i. nat_lt i most) (e refl)

or_false : (b c : Bool) → b ≡ false → c ≡ false → (b || c) ≡ false
or_false true c e f = e
or_false false c e f = f

module _ (most : ℕ) (key : Rank → List ℕ) where
  abbrev Count : List ℕ → List (List ℕ) → ℕ
  Count j before = count_by (bytes_eq j) before

  abbrev IsEmpty : List ℕ → Bool
  IsEmpty j = length j == 0

  test_same : (j : List ℕ) (b c : List (List ℕ)) → (IsEmpty j ≡ false → Count j b ≡ Count j c) → is_kept most j b ≡ is_kept most j c
  test_same j b c e = or_step (IsEmpty j) (Count j b) (Count j c) most e

  test_yes : (j : List ℕ) (b : List (List ℕ)) → Count j b < most → is_kept most j b ≡ true
  test_yes j b h = or_right (IsEmpty j) (nat_lt (Count j b) most) (lt-ltb (Count j b) most h)

  test_no : (j : List ℕ) (b : List (List ℕ)) → IsEmpty j ≡ false → most ≤ Count j b → is_kept most j b ≡ false
  test_no j b some h = or_false (IsEmpty j) (nat_lt (Count j b) most) some (le-ltb (Count j b) most h)

  test_empty : (j : List ℕ) (b : List (List ℕ)) → IsEmpty j ≡ true → is_kept most j b ≡ true
  test_empty j b e = ap (λ i. i || nat_lt (Count j b) most) e

  abbrev Kept : List (List ℕ) → List Rank → List Rank
  Kept b xs = kept_behind most key b xs

  kept_yes : (b : List (List ℕ)) (x : Rank) (xs : List Rank) → is_kept most (key x) b ≡ true → Kept b (x ∷ xs) ≡ x ∷ Kept (key x ∷ b) xs
  kept_yes b x xs e = ap (λ i. cond i (x ∷ Kept (key x ∷ b) xs) (Kept b xs)) e

  kept_no : (b : List (List ℕ)) (x : Rank) (xs : List Rank) → is_kept most (key x) b ≡ false → Kept b (x ∷ xs) ≡ Kept b xs
  kept_no b x xs e = ap (λ i. cond i (x ∷ Kept (key x ∷ b) xs) (Kept b xs)) e

  pub each_kept : (P : Rank → Type 0) (b : List (List ℕ)) (xs : List Rank) → AllByRecursion P xs → AllByRecursion P (Kept b xs)
  each_kept P b [] h = tt
  each_kept P b (x ∷ xs) h =
      elim (is_kept most (key x) b) as (λ i. AllByRecursion P (cond i (x ∷ Kept (key x ∷ b) xs) (Kept b xs))) [
        | true ↦ (h.0, each_kept P (key x ∷ b) xs h.1)
        | false ↦ each_kept P b xs h.1
      ]

  pub strict_kept : (order : Order) (b : List (List ℕ)) (xs : List Rank) → Strict order xs → Strict order (Kept b xs)
  strict_kept order b [] s = tt
  strict_kept order b (x ∷ xs) s =
      elim (is_kept most (key x) b) as (λ i. Strict order (cond i (x ∷ Kept (key x ∷ b) xs) (Kept b xs))) [
        | true ↦ (each_kept (λ y. is_before order x y ≡ true) (key x ∷ b) xs s.0, strict_kept order (key x ∷ b) xs s.1)
        | false ↦ strict_kept order b xs s.1
      ]

  pub distinct_kept : (b : List (List ℕ)) (xs : List Rank) → Distinct xs → Distinct (Kept b xs)
  distinct_kept b [] d = tt
  distinct_kept b (x ∷ xs) d =
      elim (is_kept most (key x) b) as (λ i. Distinct (cond i (x ∷ Kept (key x ∷ b) xs) (Kept b xs))) [
        | true ↦ (each_kept (λ y. x.id ≢ y.id) (key x ∷ b) xs d.0, distinct_kept (key x ∷ b) xs d.1)
        | false ↦ distinct_kept b xs d.1
      ]

  -- it hangs on how often each key stands before, the empty one left out
  kept_same : (b c : List (List ℕ)) → ((j : List ℕ) → IsEmpty j ≡ false → Count j b ≡ Count j c) → (xs : List Rank) → Kept b xs ≡ Kept c xs
  kept_same b c e [] = refl
  kept_same b c e (x ∷ xs) =
      let yes : Kept (key x ∷ b) xs ≡ Kept (key x ∷ c) xs = kept_same (key x ∷ b) (key x ∷ c) (λ j some. counted_both j (key x) b c (e j some)) xs in
      let no : Kept b xs ≡ Kept c xs = kept_same b c e xs in
      let test : is_kept most (key x) b ≡ is_kept most (key x) c = test_same (key x) b c (e (key x)) in
      λ i. cond (test i) (x ∷ yes i) (no i)

  -- ---- a match of the empty key

  empty_apart : (j k : List ℕ) → IsEmpty j ≡ false → IsEmpty k ≡ true → bytes_eq k j ≡ false
  empty_apart j k some none =
      elim (bytes_eq k j) as (λ b. bytes_eq k j ≡ b → b ≡ false) [
        | true ↦ λ e. absurd (true≢false (sym none ∙ ap IsEmpty ((bytes_decides k j).0 e) ∙ some))
        | false ↦ λ e. refl
      ] refl

  pub free_placed : (order : Order) (x : Rank) → IsEmpty (key x) ≡ true → (b : List (List ℕ)) (xs : List Rank) → Strict order xs → Kept b (place order x xs) ≡ place order x (Kept b xs)
  free_placed order x none b [] s = kept_yes b x [] (test_empty (key x) b none)
  free_placed order x none b (y ∷ ys) s =
      elim (is_before order x y) as (λ i. is_before order x y ≡ i → Kept b (cond i (x ∷ y ∷ ys) (y ∷ place order x ys)) ≡ place order x (Kept b (y ∷ ys))) [
        | true ↦ λ e.
            let all : Leads order x (y ∷ ys) = (e, leads_through order x y ys e s.0) in
            kept_yes b x (y ∷ ys) (test_empty (key x) b none)
            ∙ ap (λ zs. x ∷ zs) (kept_same (key x ∷ b) b (λ j some. counted_no j (key x) b (empty_apart j (key x) some none)) (y ∷ ys))
            ∙ sym (place_front order x (Kept b (y ∷ ys)) (each_kept (λ z. is_before order x z ≡ true) b (y ∷ ys) all))
        | false ↦ λ e.
            elim (is_kept most (key y) b) as (λ i. cond i (y ∷ Kept (key y ∷ b) (place order x ys)) (Kept b (place order x ys)) ≡ place order x (cond i (y ∷ Kept (key y ∷ b) ys) (Kept b ys))) [
              | true ↦ ap (λ zs. y ∷ zs) (free_placed order x none (key y ∷ b) ys s.1) ∙ sym (place_behind order x y (Kept (key y ∷ b) ys) e)
              | false ↦ free_placed order x none b ys s.1
            ]
      ] refl

  -- ---- a match of another key

  module _ (k : List ℕ) (some : IsEmpty k ≡ false) where
    -- the matches of the key
    abbrev Own : List Rank → List Rank
    Own xs = filter (λ y. bytes_eq (key y) k) xs

    own_yes : (y : Rank) (ys : List Rank) → bytes_eq (key y) k ≡ true → Own (y ∷ ys) ≡ y ∷ Own ys
    own_yes y ys e = ap (λ b. cond b (y ∷ Own ys) (Own ys)) e

    own_no : (y : Rank) (ys : List Rank) → bytes_eq (key y) k ≡ false → Own (y ∷ ys) ≡ Own ys
    own_no y ys e = ap (λ b. cond b (y ∷ Own ys) (Own ys)) e

    -- what one match of the key more, before all, puts out
    abbrev Out : ℕ → List Rank → List Rank
    Out r ys = drop r (take (suc r) (Own ys))

    out_apart : (x : Rank) (r : ℕ) (ys : List Rank) → Apart x ys → Apart x (Out r ys)
    out_apart x r ys a = each_drop (λ y. x.id ≢ y.id) r (take (suc r) (Own ys)) (each_take (λ y. x.id ≢ y.id) (suc r) (Own ys) (each_filter (λ y. x.id ≢ y.id) (λ y. bytes_eq (key y) k) ys a))

    kept_test_own : (y : Rank) (b : List (List ℕ)) → bytes_eq (key y) k ≡ true → is_kept most (key y) b ≡ is_kept most k b
    kept_test_own y b e = ap (λ j. is_kept most j b) ((bytes_decides (key y) k).0 e)

    -- keys other than k stand equally often before
    abbrev Others : List (List ℕ) → List (List ℕ) → Type 0
    Others b c = (j : List ℕ) → IsEmpty j ≡ false → bytes_eq k j ≡ false → Count j b ≡ Count j c

    all_counts : (b c : List (List ℕ)) → Count k b ≡ Count k c → Others b c → (j : List ℕ) → IsEmpty j ≡ false → Count j b ≡ Count j c
    all_counts b c own others j full =
        elim (bytes_eq k j) as (λ i. bytes_eq k j ≡ i → Count j b ≡ Count j c) [
          | true ↦ λ e. subst (λ l. Count l b ≡ Count l c) ((bytes_decides k j).0 e) own
          | false ↦ λ e. others j full e
        ] refl

    others_own : (h : Rank) (b c : List (List ℕ)) → bytes_eq (key h) k ≡ true → Others b c → Others b (key h ∷ c)
    others_own h b c e others j full apart =
        others j full apart ∙ sym (counted_no j (key h) c (ap (λ l. bytes_eq l j) ((bytes_decides (key h) k).0 e) ∙ apart))

    others_both : (h : Rank) (b c : List (List ℕ)) → Others b c → Others (key h ∷ b) (key h ∷ c)
    others_both h b c others j full apart = counted_both j (key h) b c (others j full apart)

    -- with one match of the key more before: the last one that was kept is not
    out_last : (b c : List (List ℕ)) → most ≡ Count k c + 1 → Count k b ≡ suc (Count k c) → Others b c
        → (h : Rank) (t : List Rank) → Apart h t → bytes_eq (key h) k ≡ true → Kept b (h ∷ t) ≡ without (Out zero (h ∷ t)) (Kept c (h ∷ t))
    out_last b c room one others h t a e =
        let no : is_kept most (key h) b ≡ false = kept_test_own h b e ∙ test_no k b some (omega (arith, room, one)) in
        let yes : is_kept most (key h) c ≡ true = kept_test_own h c e ∙ test_yes k c (omega (arith, room)) in
        let out = own_yes h t e in
        let kept = kept_yes c h t yes in
        kept_no b h t no
        ∙ kept_same b (key h ∷ c) (all_counts b (key h ∷ c) (one ∙ sym (counted_yes k (key h) c e)) (others_own h b c e others)) t
        ∙ sym (without_first h [] (Kept (key h ∷ c) t) (each_kept (λ y. h.id ≢ y.id) (key h ∷ c) t a))
        ∙ sym (λ i. without (take 1 (out i)) (kept i))

    -- and all before it are
    out_more : (r : ℕ) (b c : List (List ℕ)) → most ≡ Count k c + suc (suc r) → Count k b ≡ suc (Count k c)
        → (h : Rank) (t : List Rank) → Apart h t → bytes_eq (key h) k ≡ true
        → Kept (key h ∷ b) t ≡ without (Out r t) (Kept (key h ∷ c) t)
        → Kept b (h ∷ t) ≡ without (Out (suc r) (h ∷ t)) (Kept c (h ∷ t))
    out_more r b c room one h t a e rest =
        let first : is_kept most (key h) b ≡ true = kept_test_own h b e ∙ test_yes k b (omega (arith, room, one)) in
        let second : is_kept most (key h) c ≡ true = kept_test_own h c e ∙ test_yes k c (omega (arith, room)) in
        let out = own_yes h t e in
        let kept = kept_yes c h t second in
        kept_yes b h t first
        ∙ ap (λ ys. h ∷ ys) rest
        ∙ sym (without_kept (Out r t) h (Kept (key h ∷ c) t) (out_apart h r t a))
        ∙ sym (λ i. without (drop (suc r) (take (suc (suc r)) (out i))) (kept i))

    -- a match of another key is kept with both, or with none
    out_other : (r : ℕ) (b c : List (List ℕ)) → Others b c
        → (h : Rank) (t : List Rank) → Apart h t → bytes_eq (key h) k ≡ false
        → Kept (key h ∷ b) t ≡ without (Out r t) (Kept (key h ∷ c) t) → Kept b t ≡ without (Out r t) (Kept c t)
        → Kept b (h ∷ t) ≡ without (Out r (h ∷ t)) (Kept c (h ∷ t))
    out_other r b c others h t a e more less =
        let out = own_no h t e in
        let test : is_kept most (key h) b ≡ is_kept most (key h) c = test_same (key h) b c (λ full. others (key h) full (bytes_sym k (key h) ∙ e)) in
        elim (is_kept most (key h) c) as (λ i. is_kept most (key h) c ≡ i → Kept b (h ∷ t) ≡ without (Out r (h ∷ t)) (Kept c (h ∷ t))) [
          | true ↦ λ yes.
              let kept = kept_yes c h t yes in
              kept_yes b h t (test ∙ yes) ∙ ap (λ ys. h ∷ ys) more ∙ sym (without_kept (Out r t) h (Kept (key h ∷ c) t) (out_apart h r t a))
              ∙ sym (λ i. without (drop r (take (suc r) (out i))) (kept i))
          | false ↦ λ no.
              let kept = kept_no c h t no in
              kept_no b h t (test ∙ no) ∙ less ∙ sym (λ i. without (drop r (take (suc r) (out i))) (kept i))
        ] refl

    kept_out : (r : ℕ) (b c : List (List ℕ)) → most ≡ Count k c + suc r → Count k b ≡ suc (Count k c) → Others b c
        → (xs : List Rank) → Distinct xs → Kept b xs ≡ without (Out r xs) (Kept c xs)
    kept_out r b c room one others [] d = refl
    kept_out zero b c room one others (h ∷ t) d =
        elim (bytes_eq (key h) k) as (λ i. bytes_eq (key h) k ≡ i → Kept b (h ∷ t) ≡ without (Out zero (h ∷ t)) (Kept c (h ∷ t))) [
          | true ↦ λ e. out_last b c room one others h t d.0 e
          | false ↦ λ e.
              out_other zero b c others h t d.0 e
              (kept_out zero (key h ∷ b) (key h ∷ c) (room ∙ ap (λ n. n + 1) (sym (counted_no k (key h) c e))) (counted_no k (key h) b e ∙ one ∙ ap suc (sym (counted_no k (key h) c e))) (others_both h b c others) t d.1)
              (kept_out zero b c room one others t d.1)
        ] refl
    kept_out (suc r) b c room one others (h ∷ t) d =
        elim (bytes_eq (key h) k) as (λ i. bytes_eq (key h) k ≡ i → Kept b (h ∷ t) ≡ without (Out (suc r) (h ∷ t)) (Kept c (h ∷ t))) [
          | true ↦ λ e.
              let before : Count k (key h ∷ c) ≡ suc (Count k c) = counted_yes k (key h) c e in
              out_more r b c room one h t d.0 e
              (kept_out r (key h ∷ b) (key h ∷ c) (omega (arith, room, before)) (counted_yes k (key h) b e ∙ ap suc (one ∙ sym before)) (others_both h b c others) t d.1)
          | false ↦ λ e.
              out_other (suc r) b c others h t d.0 e
              (kept_out (suc r) (key h ∷ b) (key h ∷ c) (room ∙ ap (λ n. n + suc (suc r)) (sym (counted_no k (key h) c e))) (counted_no k (key h) b e ∙ one ∙ ap suc (sym (counted_no k (key h) c e))) (others_both h b c others) t d.1)
              (kept_out (suc r) b c room one others t d.1)
        ] refl

    -- ---- one match of the key more, in its place

    module _ (order : Order) (x : Rank) (own : bytes_eq (key x) k ≡ true) where
      -- what falls out of the best of the key
      abbrev Gone : ℕ → List Rank → List Rank
      Gone r xs = drop r (place order x (take r (Own xs)))

      gone_apart : (h : Rank) (r : ℕ) (xs : List Rank) → h.id ≢ x.id → Apart h xs → Apart h (Gone r xs)
      gone_apart h r xs a all =
          each_drop (λ y. h.id ≢ y.id) r (place order x (take r (Own xs)))
          (all_placed (is_before order) (λ y. h.id ≢ y.id) x (take r (Own xs)) a (each_take (λ y. h.id ≢ y.id) r (Own xs) (each_filter (λ y. h.id ≢ y.id) (λ y. bytes_eq (key y) k) xs all)))

      abbrev Moves : List (List ℕ) → ℕ → List Rank → Type 0
      Moves b r xs = Kept b (place order x xs) ≡ without (Gone r xs) (place order x (Kept b xs))

      no_room : (b : List (List ℕ)) → 0 ≡ most - Count k b → is_kept most k b ≡ false
      no_room b room = test_no k b some (omega (arith, room))

      one_room : (b : List (List ℕ)) (r : ℕ) → suc r ≡ most - Count k b → is_kept most k b ≡ true
      one_room b r room = test_yes k b (omega (arith, room))

      moves_none : (b : List (List ℕ)) (r : ℕ) → r ≡ most - Count k b → Moves b r []
      moves_none b zero room = kept_no b x [] (kept_test_own x b own ∙ no_room b room) ∙ sym (without_first x [] [] tt)
      moves_none b (suc r) room =
          let nothing = drop_nil r in
          kept_yes b x [] (kept_test_own x b own ∙ one_room b r room) ∙ sym (without_none (x ∷ [])) ∙ sym (λ i. without (nothing i) (x ∷ []))

      -- it comes before all
      moves_first : (b : List (List ℕ)) (r : ℕ) → r ≡ most - Count k b → (xs : List Rank) → Leads order x xs → Distinct xs → Apart x xs
          → Kept b (x ∷ xs) ≡ without (Gone r xs) (place order x (Kept b xs))
      moves_first b zero room xs l d a =
          let front = place_front order x (Kept b xs) (each_kept (λ y. is_before order x y ≡ true) b xs l) in
          kept_no b x xs (kept_test_own x b own ∙ no_room b room)
          ∙ sym (without_first x [] (Kept b xs) (each_kept (λ y. x.id ≢ y.id) b xs a))
          ∙ sym (λ i. without (x ∷ []) (front i))
      moves_first b (suc r) room xs l d a =
          let front = place_front order x (Kept b xs) (each_kept (λ y. is_before order x y ≡ true) b xs l) in
          let best = place_front order x (take (suc r) (Own xs)) (each_take (λ y. is_before order x y ≡ true) (suc r) (Own xs) (each_filter (λ y. is_before order x y ≡ true) (λ y. bytes_eq (key y) k) xs l)) in
          kept_yes b x xs (kept_test_own x b own ∙ one_room b r room)
          ∙ ap (λ ys. x ∷ ys)
          (kept_out r (key x ∷ b) b (omega (arith, room)) (counted_yes k (key x) b own)
          (λ j full apart. counted_no j (key x) b (ap (λ l. bytes_eq l j) ((bytes_decides (key x) k).0 own) ∙ apart)) xs d)
          ∙ sym (without_kept (Out r xs) x (Kept b xs) (out_apart x r xs a))
          ∙ sym (λ i. without (drop (suc r) (best i)) (front i))

      -- behind a match that is kept
      moves_kept : (b : List (List ℕ)) (r s : ℕ) (h : Rank) (t : List Rank) → is_before order x h ≡ false → h.id ≢ x.id → Apart h t
          → is_kept most (key h) b ≡ true → Gone r (h ∷ t) ≡ Gone s t → Moves (key h ∷ b) s t
          → Kept b (h ∷ place order x t) ≡ without (Gone r (h ∷ t)) (place order x (Kept b (h ∷ t)))
      moves_kept b r s h t behind apart a is same rest =
          let kept = kept_yes b h t is in
          kept_yes b h (place order x t) is
          ∙ ap (λ ys. h ∷ ys) rest
          ∙ sym (without_kept (Gone s t) h (place order x (Kept (key h ∷ b) t)) (gone_apart h s t apart a))
          ∙ ap (without (Gone s t)) (sym (place_behind order x h (Kept (key h ∷ b) t) behind))
          ∙ sym (λ i. without (same i) (place order x (kept i)))

      -- behind one that is not
      moves_past : (b : List (List ℕ)) (r : ℕ) (h : Rank) (t : List Rank)
          → is_kept most (key h) b ≡ false → Gone r (h ∷ t) ≡ Gone r t → Moves b r t
          → Kept b (h ∷ place order x t) ≡ without (Gone r (h ∷ t)) (place order x (Kept b (h ∷ t)))
      moves_past b r h t is same rest =
          let kept = kept_no b h t is in
          kept_no b h (place order x t) is ∙ rest ∙ sym (λ i. without (same i) (place order x (kept i)))

      -- behind one of another key
      moves_other : (b : List (List ℕ)) (r : ℕ) (h : Rank) (t : List Rank) → is_before order x h ≡ false → h.id ≢ x.id → Apart h t → bytes_eq (key h) k ≡ false
          → Moves (key h ∷ b) r t → Moves b r t
          → Kept b (h ∷ place order x t) ≡ without (Gone r (h ∷ t)) (place order x (Kept b (h ∷ t)))
      moves_other b r h t behind apart a e more less =
          let same : Gone r (h ∷ t) ≡ Gone r t = ap (λ ys. drop r (place order x (take r ys))) (own_no h t e) in
          elim (is_kept most (key h) b) as (λ i. is_kept most (key h) b ≡ i → Kept b (h ∷ place order x t) ≡ without (Gone r (h ∷ t)) (place order x (Kept b (h ∷ t)))) [
            | true ↦ λ is. moves_kept b r r h t behind apart a is same more
            | false ↦ λ is. moves_past b r h t is same less
          ] refl

      from_front : (b : List (List ℕ)) (r : ℕ) (h : Rank) (t : List Rank) → is_before order x h ≡ false
          → Kept b (h ∷ place order x t) ≡ without (Gone r (h ∷ t)) (place order x (Kept b (h ∷ t))) → Moves b r (h ∷ t)
      from_front b r h t behind e = ap (Kept b) (place_behind order x h t behind) ∙ e

      pub moves : (b : List (List ℕ)) (r : ℕ) → r ≡ most - Count k b → (xs : List Rank) → Strict order xs → Distinct xs → Apart x xs → Moves b r xs
      moves b r room [] s d a = moves_none b r room
      moves b zero room (h ∷ t) s d a =
          elim (is_before order x h) as (λ i. is_before order x h ≡ i → Moves b zero (h ∷ t)) [
            | true ↦ λ e. ap (Kept b) (place_before order x h t e) ∙ moves_first b zero room (h ∷ t) (e, leads_through order x h t e s.0) d a
            | false ↦ λ e.
                elim (bytes_eq (key h) k) as (λ i. bytes_eq (key h) k ≡ i → Moves b zero (h ∷ t)) [
                  | true ↦ λ g. from_front b zero h t e (moves_past b zero h t (kept_test_own h b g ∙ no_room b room) refl (moves b zero room t s.1 d.1 a.1))
                  | false ↦ λ g.
                      from_front b zero h t e
                      (moves_other b zero h t e (λ f. a.0 (sym f)) d.0 g
                      (moves (key h ∷ b) zero (room ∙ ap (λ n. most - n) (sym (counted_no k (key h) b g))) t s.1 d.1 a.1)
                      (moves b zero room t s.1 d.1 a.1))
                ] refl
          ] refl
      moves b (suc r) room (h ∷ t) s d a =
          elim (is_before order x h) as (λ i. is_before order x h ≡ i → Moves b (suc r) (h ∷ t)) [
            | true ↦ λ e. ap (Kept b) (place_before order x h t e) ∙ moves_first b (suc r) room (h ∷ t) (e, leads_through order x h t e s.0) d a
            | false ↦ λ e.
                elim (bytes_eq (key h) k) as (λ i. bytes_eq (key h) k ≡ i → Moves b (suc r) (h ∷ t)) [
                  | true ↦ λ g.
                      let before : Count k (key h ∷ b) ≡ suc (Count k b) = counted_yes k (key h) b g in
                      from_front b (suc r) h t e
                      (moves_kept b (suc r) r h t e (λ f. a.0 (sym f)) d.0 (kept_test_own h b g ∙ one_room b r room)
                      (ap (λ ys. drop (suc r) (place order x (take (suc r) ys))) (own_yes h t g) ∙ ap (drop (suc r)) (place_behind order x h (take r (Own t)) e))
                      (moves (key h ∷ b) r (omega (arith, room, before)) t s.1 d.1 a.1))
                  | false ↦ λ g.
                      from_front b (suc r) h t e
                      (moves_other b (suc r) h t e (λ f. a.0 (sym f)) d.0 g
                      (moves (key h ∷ b) (suc r) (room ∙ ap (λ n. most - n) (sym (counted_no k (key h) b g))) t s.1 d.1 a.1)
                      (moves b (suc r) room t s.1 d.1 a.1))
                ] refl
          ] refl

      -- ---- the matches of the key

      own_front : (xs : List Rank) → Own (x ∷ xs) ≡ x ∷ Own xs
      own_front xs = own_yes x xs own

      -- of the key it takes its place
      pub own_placed : (xs : List Rank) → Strict order xs → Own (place order x xs) ≡ place order x (Own xs)
      own_placed [] s = own_front []
      own_placed (h ∷ t) s =
          elim (is_before order x h) as (λ i. is_before order x h ≡ i → Own (cond i (x ∷ h ∷ t) (h ∷ place order x t)) ≡ place order x (Own (h ∷ t))) [
            | true ↦ λ e.
                own_front (h ∷ t)
                ∙ sym (place_front order x (Own (h ∷ t)) (each_filter (λ y. is_before order x y ≡ true) (λ y. bytes_eq (key y) k) (h ∷ t) (e, leads_through order x h t e s.0)))
            | false ↦ λ e.
                elim (bytes_eq (key h) k) as (λ i. cond i (h ∷ Own (place order x t)) (Own (place order x t)) ≡ place order x (cond i (h ∷ Own t) (Own t))) [
                  | true ↦ ap (λ ys. h ∷ ys) (own_placed t s.1) ∙ sym (place_behind order x h (Own t) e)
                  | false ↦ own_placed t s.1
                ]
          ] refl

  -- of another key nothing changes
  pub other_placed : (order : Order) (j : List ℕ) (x : Rank) → bytes_eq (key x) j ≡ false → (xs : List Rank) → filter (λ y. bytes_eq (key y) j) (place order x xs) ≡ filter (λ y. bytes_eq (key y) j) xs
  other_placed order j x other [] = ap (λ b. cond b (x ∷ []) []) other
  other_placed order j x other (h ∷ t) =
      elim (is_before order x h) as (λ i. filter (λ y. bytes_eq (key y) j) (cond i (x ∷ h ∷ t) (h ∷ place order x t)) ≡ filter (λ y. bytes_eq (key y) j) (h ∷ t)) [
        | true ↦ ap (λ b. cond b (x ∷ filter (λ y. bytes_eq (key y) j) (h ∷ t)) (filter (λ y. bytes_eq (key y) j) (h ∷ t))) other
        | false ↦
            elim (bytes_eq (key h) j) as (λ i. cond i (h ∷ filter (λ y. bytes_eq (key y) j) (place order x t)) (filter (λ y. bytes_eq (key y) j) (place order x t)) ≡ cond i (h ∷ filter (λ y. bytes_eq (key y) j) t) (filter (λ y. bytes_eq (key y) j) t)) [
              | true ↦ ap (λ ys. h ∷ ys) (other_placed order j x other t)
              | false ↦ other_placed order j x other t
            ]
      ]
