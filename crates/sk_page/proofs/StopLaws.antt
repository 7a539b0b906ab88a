-- A search by relevance, without collapsing, near a point at which its page is settled: before it the tree is asked for no more than the document there scores, and from it on for more than the weight that settles it.
use Rattle.std.proofs.Common.{◌≡◌, ◌≢◌, ◌≤◌, ◌<◌, ◌+◌, ◌-◌, ◌⊎◌, ℕ, Bool, true, false, cond, ◌&&◌, ◌||◌, ◌==◌, nat_le, nat_lt, max, min, List, [], ◌∷◌, ◌++◌, length, take, Option, None, Some, option_map, refl, sym, ap, ◌∙◌, subst, arith, inl, inr, length-take}
use Rattle.std.specs.List.{AllByRecursion, cons_option}
use Rattle.std.specs.Option.{option_and_then, IsSomeAnd}
use Rattle.std.specs.List.Sorted.{IsSortedBy}
use Rattle.std.proofs.lemmas.Bool.Decides.{nat_tests}
use Rattle.std.proofs.lemmas.List.{length-map}
use Rattle.std.proofs.lemmas.Bool.{le-ltb, leb-false, leb-true, ltb-false, ltb-true}
use Rattle.sk_model.proofs.SettledLaws.{both_none, is_none, some_left}
use Rattle.sk_base.specs.declared.find.Paging.{Paging}
use Rattle.sk_base.specs.declared.rank.Order.{Order}
use Rattle.sk_base.specs.declared.rank.OrderBy.{OrderBy}
use Rattle.sk_base.specs.declared.rank.Rank.{Rank}
use Rattle.sk_base.specs.Before.{is_before}
use Rattle.sk_base.specs.Numbers.{Docs}
use Rattle.sk_sorted.specs.Entries.{RiseAbove, first_id}
use Rattle.sk_sorted.proofs.EntryLaws.{found-here, found-other, found-below}
use Rattle.sk_query.specs.Trees.{Tree}
use Rattle.sk_model.specs.Counts.{wanted, kept_by}
use Rattle.sk_model.specs.Covers.{CoversAt}
use Rattle.sk_model.specs.Documents.{Document}
use Rattle.sk_model.specs.Edits.{document_at, last_id}
use Rattle.sk_model.specs.Matches.{found_by, key_of}
use Rattle.sk_model.specs.Page.{best_first, kept_of}
use Rattle.sk_model.specs.Settled.{less_heavy, settled_from, settled, settling_weight}
use Rattle.sk_heap.specs.declared.hit.Hit.{Hit}
use Rattle.sk_heap.specs.Held.{Held, ranks_of, need_of, need_behind, last_weight}
use Rattle.sk_heap.proofs.HeapLaws.{is_weighed, Heavy, last_heavy, all_heavy}
use Rattle.sk_collapse.specs.Collapsed.{Collapsed}
use Rattle.sk_model.specs.Scores.{score}
use Rattle.sk_page.specs.Shown.{is_behind_page, Shown}
use Rattle.sk_page.specs.Walks.{page_end, held_by, IsFull, Walk}
use Rattle.sk_page.specs.Pages.{Pages}
use Rattle.sk_page.specs.Needs.{is_above, is_settled, need_at, need_for}
use Rattle.sk_page.specs.Calm.{scored_at, IsCalm}
use Rattle.sk_page.proofs.ShownLaws.{shown_beside}
use Rattle.sk_page.proofs.WalkLaws.{weighed, scores, ranked, taken, found_append, found_step}
use Rattle.sk_page.proofs.PageLaws.{held_is}
use Rattle.sk_page.proofs.HeavyLaws.{heavy, heavy_more, AllHeavy, filled, full_of_heavy}

-- ---- tests

not_zero : (n : ℕ) → (n == 0) ≡ false → 1 ≤ n
not_zero n e = grind (arith, nat_tests)

zero_not : (n : ℕ) → 1 ≤ n → (n == 0) ≡ false
zero_not n l = grind (arith, nat_tests)

-- ---- at which match a page is settled

module _ (weight : ℕ) where
  less_true : (m : ℕ) (x : Rank) → nat_le weight x.weight ≡ true → less_heavy weight m x ≡ m - 1
  less_true m x e = ap (λ t. cond t (m - 1) m) e

  less_false : (m : ℕ) (x : Rank) → nat_le weight x.weight ≡ false → less_heavy weight m x ≡ m
  less_false m x e = ap (λ t. cond t (m - 1) m) e

  -- enough stand in the front, or it is settled behind it
  abbrev Within : ℕ → ℕ → List Rank → List Rank → Type 0
  Within n m xs ys = (n ≤ length xs) × (m ≤ heavy weight xs) × ((last : ℕ) → AllByRecursion (λ (r : Rank). r.id ≤ last) xs → settled_from n m weight (xs ++ ys) ≤ last)

  abbrev Beyond : ℕ → ℕ → List Rank → List Rank → Type 0
  Beyond n m xs ys = (k : ℕ) × (j : ℕ) × (k ≡ n - length xs) × (j ≡ m - heavy weight xs) × (1 ≤ k + j) × (settled_from n m weight (xs ++ ys) ≡ settled_from k j weight ys)

  at_first : (n m : ℕ) (x : Rank) (xs ys : List Rank) (last : ℕ) → (((n - 1) == 0) && (less_heavy weight m x == 0)) ≡ true → x.id ≤ last → settled_from n m weight ((x ∷ xs) ++ ys) ≤ last
  at_first n m x xs ys last f low = subst (λ b. cond b x.id (settled_from (n - 1) (less_heavy weight m x) weight (xs ++ ys)) ≤ last) (sym f) low

  at_later : (n m : ℕ) (x : Rank) (xs ys : List Rank) (last : ℕ) → (((n - 1) == 0) && (less_heavy weight m x == 0)) ≡ false → settled_from (n - 1) (less_heavy weight m x) weight (xs ++ ys) ≤ last → settled_from n m weight ((x ∷ xs) ++ ys) ≤ last
  at_later n m x xs ys last f low = subst (λ b. cond b x.id (settled_from (n - 1) (less_heavy weight m x) weight (xs ++ ys)) ≤ last) (sym f) low

  -- how many heavy ones are wanted behind it
  heavy_left : (m : ℕ) (x : Rank) (xs : List Rank) → m - heavy weight (x ∷ xs) ≡ less_heavy weight m x - heavy weight xs
  heavy_left m x xs = by (nat_le weight x.weight) refl
    where
      by : (h : Bool) → nat_le weight x.weight ≡ h → m - heavy weight (x ∷ xs) ≡ less_heavy weight m x - heavy weight xs
      by true e = omega (arith, less_true m x e, heavy_more weight x xs true e)
      by false e = omega (arith, less_false m x e, heavy_more weight x xs false e)

  split_step : (n m : ℕ) (x : Rank) (xs ys : List Rank) (last : Bool) → (((n - 1) == 0) && (less_heavy weight m x == 0)) ≡ last
      → (1 ≤ (n - 1) + less_heavy weight m x → Within (n - 1) (less_heavy weight m x) xs ys ⊎ Beyond (n - 1) (less_heavy weight m x) xs ys)
      → Within n m (x ∷ xs) ys ⊎ Beyond n m (x ∷ xs) ys
  split_step n m x xs ys true f rest =
      let none = both_none (n - 1) (less_heavy weight m x) f in
      inl (omega (arith, none.0), omega (arith, none.1, heavy_left m x xs), λ last low. at_first n m x xs ys last f low.0)
  split_step n m x xs ys false f rest = onward (rest (some_left (n - 1) (less_heavy weight m x) f))
    where
      onward : Within (n - 1) (less_heavy weight m x) xs ys ⊎ Beyond (n - 1) (less_heavy weight m x) xs ys → Within n m (x ∷ xs) ys ⊎ Beyond n m (x ∷ xs) ys
      onward (inl w) = inl (omega (arith, w.0), omega (arith, w.1, heavy_left m x xs), λ last low. at_later n m x xs ys last f (w.2 last low.1))
      onward (inr b) =
          inr (
            b.0,
            b.1,
            omega (arith, b.2),
            omega (arith, b.3, heavy_left m x xs),
            b.4,
            ap (λ t. cond t x.id (settled_from (n - 1) (less_heavy weight m x) weight (xs ++ ys))) f ∙ b.5,
          )

  split_settled : (n m : ℕ) (xs ys : List Rank) → 1 ≤ n + m → Within n m xs ys ⊎ Beyond n m xs ys
  split_settled n m [] ys some = inr (n, m, omega arith, omega arith, some, refl)
  split_settled n m (x ∷ xs) ys some =
      split_step n m x xs ys (((n - 1) == 0) && (less_heavy weight m x == 0)) refl (split_settled (n - 1) (less_heavy weight m x) xs ys)

  -- one of the matches is so
  abbrev AnyOf : (Rank → Type 0) → List Rank → Type 0
  AnyOf P [] = ⊥
  AnyOf P (x ∷ xs) = P x ⊎ AnyOf P xs

  any_mapped : (P Q : Rank → Type 0) → ((r : Rank) → P r → Q r) → (xs : List Rank) → AnyOf P xs → AnyOf Q xs
  any_mapped P Q f [] h = h
  any_mapped P Q f (x ∷ xs) (inl h) = inl (f x h)
  any_mapped P Q f (x ∷ xs) (inr h) = inr (any_mapped P Q f xs h)

  -- it settles the page at its id; where enough were seen before and more heavy ones are needed, it is heavy
  abbrev Settles : ℕ → ℕ → ℕ → Rank → Type 0
  Settles id n m r = (r.id ≡ id) × (n ≡ 0 → 1 ≤ m → weight ≤ r.weight)

  settles_step : (n m id : ℕ) (y : Rank) (ys : List Rank) (h last : Bool) → nat_le weight y.weight ≡ h → (((n - 1) == 0) && (less_heavy weight m y == 0)) ≡ last
      → cond last y.id (settled_from (n - 1) (less_heavy weight m y) weight ys) ≡ id
      → (settled_from (n - 1) (less_heavy weight m y) weight ys ≡ id → AnyOf (Settles id (n - 1) (less_heavy weight m y)) ys)
      → AnyOf (Settles id n m) (y ∷ ys)
  settles_step n m id y ys true true e f is rest = inl (is, λ _ _. leb-true weight y.weight e)
  settles_step n m id y ys false true e f is rest =
      let none = both_none (n - 1) (less_heavy weight m y) f in
      inl (is, λ _ some. absurd (omega (arith, some, none.1, less_false m y e)))
  settles_step n m id y ys h false e f is rest =
      let left = some_left (n - 1) (less_heavy weight m y) f in
      inr (any_mapped (Settles id (n - 1) (less_heavy weight m y)) (Settles id n m) (λ r s. (s.0, λ z some. s.1 (omega (arith, z)) (omega (arith, z, left)))) ys (rest is))

  settles : (n m id : ℕ) (ys : List Rank) → settled_from n m weight ys ≡ id → id < last_id → AnyOf (Settles id n m) ys
  settles n m id [] e low = absurd (omega (arith, e, low))
  settles n m id (y ∷ ys) e low =
      settles_step n m id y ys (nat_le weight y.weight) (((n - 1) == 0) && (less_heavy weight m y == 0)) refl refl e (λ f. settles (n - 1) (less_heavy weight m y) id ys f low)

-- ---- the document of a match

module _ (query : Tree) (paging : Paging) where
  abbrev AnyDoc : (ℕ × Document → ℕ → Type 0) → Docs → Type 0
  AnyDoc P [] = ⊥
  AnyDoc P (d ∷ docs) = ((w : ℕ) × (scores query paging d ≡ Some w) × (paging.options.cutoff ≤ w) × P d w) ⊎ AnyDoc P docs

  of_found : (P : Rank → Type 0) (docs : Docs) → AnyOf 0 P (found_by query paging docs) → AnyDoc (λ d w. P (ranked query paging d w)) docs
  of_found P [] h = absurd h
  of_found P (d ∷ docs) h = step (scores query paging d) refl (subst (AnyOf 0 P) (found_step query paging d docs (scores query paging d) refl) h) (of_found P docs)
    where
      step : (o : Option ℕ) → scores query paging d ≡ o → AnyOf 0 P (taken query paging d o ++ found_by query paging docs) → (AnyOf 0 P (found_by query paging docs) → AnyDoc (λ e w. P (ranked query paging e w)) docs)
          → AnyDoc (λ e w. P (ranked query paging e w)) (d ∷ docs)
      step None e h rest = inr (rest h)
      step (Some w) e h rest =
          elim (nat_le paging.options.cutoff w) as (λ b. nat_le paging.options.cutoff w ≡ b → AnyOf 0 P (cond b (ranked query paging d w ∷ []) [] ++ found_by query paging docs) → AnyDoc (λ e w. P (ranked query paging e w)) (d ∷ docs)) [
            | true ↦ λ f g. either f g
            | false ↦ λ f g. inr (rest g)
          ] refl h
        where
          either : nat_le paging.options.cutoff w ≡ true → P (ranked query paging d w) ⊎ AnyOf 0 P (found_by query paging docs) → AnyDoc (λ e w. P (ranked query paging e w)) (d ∷ docs)
          either f (inl p) = inl (w, e, leb-true paging.options.cutoff w f, p)
          either f (inr g) = inr (rest g)

  -- that document is the one with its id
  abbrev There : (ℕ × Document → ℕ → Type 0) → Docs → Type 0
  There P docs = (d : ℕ × Document) × (w : ℕ) × (document_at d.0 docs ≡ Some d.1) × (scores query paging d ≡ Some w) × (paging.options.cutoff ≤ w) × P d w

  later_id : (P : ℕ × Document → ℕ → Type 0) (low : ℕ) (docs : Docs) → RiseAbove low docs → AnyDoc P docs → (d : ℕ × Document) × (low < d.0) × (w : ℕ) × (document_at d.0 docs ≡ Some d.1) × (scores query paging d ≡ Some w) × (paging.options.cutoff ≤ w) × P d w
  later_id P low [] up h = absurd h
  later_id P low (d ∷ docs) up (inl h) = (d, up.0, h.0, found-here d.0 d docs refl, h.1, h.2, h.3)
  later_id P low (d ∷ docs) up (inr h) =
      let t = later_id P d.0 docs up.1 h in
      (t.0, omega (arith, up.0, t.1), t.2, found-other t.0.0 d docs (λ same. absurd (omega (arith, t.1, same))) ∙ t.3, t.4, t.5, t.6)

  any_behind : (P : ℕ × Document → ℕ → Type 0) (before rest : Docs) → AnyDoc P rest → AnyDoc P (before ++ rest)
  any_behind P [] rest h = h
  any_behind P (d ∷ before) rest h = inr (any_behind P before rest h)

  pub there : (P : ℕ × Document → ℕ → Type 0) (docs before rest : Docs) → docs ≡ before ++ rest → RiseAbove 0 docs → AnyDoc P rest → There P docs
  there P docs before rest is up h = let t = later_id P 0 docs up (subst (AnyDoc P) (sym is) (any_behind P before rest h)) in (t.0, t.2, t.3, t.4, t.5, t.6)

  -- ---- what is given there

  given : (o : Option ℕ) (w need : ℕ) → CoversAt (Some w) o need → need ≤ w → o ≡ Some w
  given None w need h low = absurd (omega (arith, h, low))
  given (Some v) w need h low = ap Some (h.1 low)

  covered_at : (give : ℕ → Option ℕ) (need id : ℕ) (document : Document) (docs : Docs) → AllByRecursion (λ (d : ℕ × Document). CoversAt (scores query paging d) (give d.0) need) docs → document_at id docs ≡ Some document
      → CoversAt (scores query paging (id, document)) (give id) need
  covered_at give need id document [] h e = absurd (cc)
  covered_at give need id document (d ∷ docs) h e = by_id (d.0 == id) refl (covered_at give need id document docs h.1)
    where
      same_id : (a b : ℕ) → (a == b) ≡ true → a ≡ b
      same_id a b e = grind (arith, nat_tests)

      other_id : (a b : ℕ) → (a == b) ≡ false → a ≢ b
      other_id a b e = grind (arith, nat_tests)

      some_is : (x y : Document) → Some x ≡ Some y → x ≡ y
      some_is x y e = cc

      by_id : (b : Bool) → (d.0 == id) ≡ b → (document_at id docs ≡ Some document → CoversAt (scores query paging (id, document)) (give id) need) → CoversAt (scores query paging (id, document)) (give id) need
      by_id true f rest =
          let same : d.0 ≡ id = same_id d.0 id f in
          let own : d.1 ≡ document = some_is d.1 document (sym (found-here id d docs same) ∙ e) in
          subst (λ n. CoversAt (scores query paging (n, document)) (give n) need) same (subst (λ x. CoversAt (scores query paging (d.0, x)) (give d.0) need) own h.0)
      by_id false f rest = rest (sym (found-other id d docs (other_id d.0 id f)) ∙ e)

  -- matches of low documents are low
  found_low : (last : ℕ) (docs : Docs) → AllByRecursion (λ (d : ℕ × Document). d.0 ≤ last) docs → AllByRecursion (λ (r : Rank). r.id ≤ last) (found_by query paging docs)
  found_low last [] h = tt
  found_low last (d ∷ docs) h =
      subst (AllByRecursion (λ (r : Rank). r.id ≤ last)) (sym (found_step query paging d docs (scores query paging d) refl)) (step (scores query paging d) (found_low last docs h.1))
    where
      step : (o : Option ℕ) → AllByRecursion (λ (r : Rank). r.id ≤ last) (found_by query paging docs) → AllByRecursion (λ (r : Rank). r.id ≤ last) (taken query paging d o ++ found_by query paging docs)
      step None rest = rest
      step (Some w) rest =
          elim (nat_le paging.options.cutoff w) as (λ b. AllByRecursion (λ (r : Rank). r.id ≤ last) (cond b (ranked query paging d w ∷ []) [] ++ found_by query paging docs)) [
            | true ↦ (h.0, rest)
            | false ↦ rest
          ]

  -- the document with a later id stands behind
  document_behind : (last id : ℕ) (before rest : Docs) → AllByRecursion (λ (d : ℕ × Document). d.0 ≤ last) before → last < id → document_at id (before ++ rest) ≡ document_at id rest
  document_behind last id [] rest low later = refl
  document_behind last id (d ∷ before) rest low later =
      found-other id d (before ++ rest) (λ same. let l = low.0 in absurd (omega (arith, l, later, same))) ∙ document_behind last id before rest low.1 later

-- ---- the heap of a page

module _ (paging : Paging) (docs : Docs) (by : paging.order.by ≡ OrderBy.Relevance) (flat : paging.collapse ≡ None) where
  by_weight : (o : OrderBy) → o ≡ OrderBy.Relevance → is_weighed o ≡ true
  by_weight o e = ap is_weighed e

  abbrev best : List Rank → List Rank
  best saw = best_first paging.order saw

  kept_flat : (saw : List Rank) → kept_by paging docs saw ≡ best saw
  kept_flat saw = ap (λ c. kept_of c (key_of paging.collapse docs) (best saw)) flat

  held_flat : (saw : List Rank) → held_by paging docs saw ≡ take (page_end paging) (best saw)
  held_flat saw = ap (take (page_end paging)) (kept_flat saw)

  to_hits : (n : ℕ) (hits : List Hit) → AllHeavy n (ranks_of hits) → Heavy n hits
  to_hits n [] h = tt
  to_hits n (x ∷ hits) h = (h.0, to_hits n hits h.1)

  of_hits : (m n : ℕ) (hits : List Hit) → n ≤ m → Heavy m hits → AllHeavy n (ranks_of hits)
  of_hits m n [] l h = tt
  of_hits m n (x ∷ hits) l h = let most = h.0 in (omega (arith, l, most), of_hits m n hits l h.1)

  module _ (last : ℕ) (saw : List Rank) (held : Held) (c : Option Collapsed) (pages : Pages paging docs last saw held c) (sorted : IsSortedBy (λ (x y : Hit). is_before held.order x.rank y.rank) held.hits) where
    abbrev lightest : ℕ
    lightest = last_weight held.hits

    on_page : ranks_of held.hits ≡ take (page_end paging) (best saw)
    on_page = held_is paging docs last saw held c pages ∙ held_flat saw

    hits_long : length held.hits ≡ min (page_end paging) (length (best saw))
    hits_long = sym (length-map held.hits (λ (h : Hit). h.rank)) ∙ ap length on_page ∙ length-take (page_end paging) (best saw)

    held_by_weight : held.order.by ≡ OrderBy.Relevance
    held_by_weight = ap (λ (o : Order). o.by) pages.order ∙ by

    need_none : page_end paging ≡ 0 → need_of held ≡ None
    need_none none =
        ap (λ b. cond b None (cond (nat_lt (length held.hits) held.most) (Some 0) (Some (need_behind held.order.by held.order.falling lightest)))) (zero_is held.most (pages.most ∙ none))
      where
        zero_is : (n : ℕ) → n ≡ 0 → (n == 0) ≡ true
        zero_is n e = grind (arith, nat_tests)

    need_some : 1 ≤ page_end paging → need_of held ≡ cond (nat_lt (length held.hits) held.most) (Some 0) (Some (cond paging.order.falling lightest (lightest + 1)))
    need_some some =
        ap (λ b. cond b None (cond (nat_lt (length held.hits) held.most) (Some 0) (Some (need_behind held.order.by held.order.falling lightest)))) (zero_not held.most (omega (arith, some, pages.most)))
        ∙ ap (λ o. cond (nat_lt (length held.hits) held.most) (Some 0) (Some (need_behind o held.order.falling lightest))) held_by_weight
        ∙ ap (λ (o : Order). cond (nat_lt (length held.hits) held.most) (Some 0) (Some (cond o.falling lightest (lightest + 1)))) pages.order

    pub need_high : (weight : ℕ) → 1 ≤ page_end paging → page_end paging ≤ length (best saw) → AllHeavy (settling_weight paging weight) (take (page_end paging) (best saw)) → (n : ℕ) × (need_of held ≡ Some n) × (weight < n)
    need_high weight some long all =
        let full : page_end paging ≤ length held.hits = omega (arith, hits_long, long) in
        let least = last_heavy (settling_weight paging weight) held.hits (to_hits (settling_weight paging weight) held.hits (subst (AllHeavy (settling_weight paging weight)) (sym on_page) all)) (omega (arith, full, some)) in (
          cond paging.order.falling lightest (lightest + 1),
          need_some some ∙ ap (λ b. cond b (Some 0) (Some (cond paging.order.falling lightest (lightest + 1)))) (le-ltb (length held.hits) held.most (omega (arith, full, pages.most))),
          above paging.order.falling least,
        )
      where
        above : (f : Bool) → cond f (weight + 1) weight ≤ lightest → weight < cond f lightest (lightest + 1)
        above true l = omega (arith, l)
        above false l = omega (arith, l)

    pub need_low : (weight : ℕ) → 1 ≤ page_end paging → (found : List Rank) → Shown (is_behind_page paging.order (held_by paging docs saw)) found saw → heavy (settling_weight paging weight) found < page_end paging
        → (n : ℕ) × (need_of held ≡ Some n) × (n ≤ settling_weight paging weight)
    need_low weight some found shown few = by_full (nat_lt (length held.hits) held.most) refl
      where
        at_weight : (f : Bool) (s : ℕ) → lightest < s → cond f lightest (lightest + 1) ≤ s
        at_weight true s l = omega (arith, l)
        at_weight false s l = omega (arith, l)

        by_lightest : (b : Bool) → nat_le (settling_weight paging weight) lightest ≡ b → page_end paging ≤ length held.hits → lightest < settling_weight paging weight
        by_lightest false e long = leb-false (settling_weight paging weight) lightest e
        by_lightest true e long =
            let all = of_hits lightest (settling_weight paging weight) held.hits (leb-true (settling_weight paging weight) lightest e) (all_heavy held.order (by_weight held.order.by held_by_weight) held.hits sorted) in
            let many = full_of_heavy (settling_weight paging weight) paging.order (by_weight paging.order.by by) (page_end paging) found saw (subst (λ rs. Shown (is_behind_page paging.order rs) found saw) (held_flat saw) shown) (omega (arith, hits_long, long)) (subst (AllHeavy (settling_weight paging weight)) on_page all) in
            absurd (omega (arith, many, few))

        by_full : (b : Bool) → nat_lt (length held.hits) held.most ≡ b → (n : ℕ) × (need_of held ≡ Some n) × (n ≤ settling_weight paging weight)
        by_full true e = (0, need_some some ∙ ap (λ b. cond b (Some 0) (Some (cond paging.order.falling lightest (lightest + 1)))) e, omega arith)
        by_full false e =
            let long = ltb-false (length held.hits) held.most e in (
              cond paging.order.falling lightest (lightest + 1),
              need_some some ∙ ap (λ b. cond b (Some 0) (Some (cond paging.order.falling lightest (lightest + 1)))) e,
              at_weight paging.order.falling (settling_weight paging weight) (by_lightest (nat_le (settling_weight paging weight) lightest) refl (omega (arith, long, pages.most))),
            )

-- ---- a search near the point

module _ (query : Tree) (paging : Paging) (docs : Docs) (by : paging.order.by ≡ OrderBy.Relevance) (flat : paging.collapse ≡ None) (rising : RiseAbove 0 docs) (give : ℕ → Option ℕ) (need : ℕ) (saw : List Rank) (walk : Walk query paging docs give need saw) where
  abbrev front : List Rank
  front = found_by query paging walk.before

  abbrev back : List Rank
  back = found_by query paging walk.rest

  found_is : found_by query paging docs ≡ front ++ back
  found_is = ap (found_by query paging) walk.split ∙ found_append query paging walk.before walk.rest

  saw_long : length saw ≤ length front
  saw_long = let long = (shown_beside (is_behind_page paging.order (held_by paging docs saw)) (λ _. []) (λ _ _ _. refl) front saw walk.shown).long in omega (arith, long)

  -- what is given at the point, where little was asked for
  pub given_there : (point : ℕ) → IsCalm query paging docs point walk.last need → walk.last < point → point < last_id → (w : ℕ) × (give point ≡ Some w) × (scored_at query paging docs point ≡ Some w) × (need ≤ w)
  given_there point calm before within = by_document (document_at point docs) refl (calm before within)
    where
      by_score : (document : Document) (o : Option ℕ) → document_at point docs ≡ Some document → score query paging.options.scheme 1 document ≡ o → IsSomeAnd o (λ w. need ≤ w)
          → (w : ℕ) × (give point ≡ Some w) × (scored_at query paging docs point ≡ Some w) × (need ≤ w)
      by_score document None e f h = absurd h
      by_score document (Some w) e f h =
          let there = sym (document_behind query paging walk.last point walk.before walk.rest walk.low before) ∙ ap (document_at point) (sym walk.split) ∙ e in
          let covers = covered_at query paging give need point document walk.rest walk.covers there in
          (w, given query paging (give point) w need (subst (λ o. CoversAt o (give point) need) f covers) h, ap (option_and_then (λ d. score query paging.options.scheme 1 d)) e ∙ f, h)

      by_document : (o : Option Document) → document_at point docs ≡ o → IsSomeAnd (option_and_then (λ d. score query paging.options.scheme 1 d) o) (λ w. need ≤ w)
          → (w : ℕ) × (give point ≡ Some w) × (scored_at query paging docs point ≡ Some w) × (need ≤ w)
      by_document None e h = absurd h
      by_document (Some document) e h = by_score document (score query paging.options.scheme 1 document) e refl h

  module _ (weight : ℕ) where
    abbrev point : ℕ
    point = settled paging (found_by query paging docs) weight

    abbrev Needless : Type 0
    Needless = (wanted paging ≡ 0) ⊎ (weight < paging.options.cutoff)

    abbrev Settling : Type 0
    Settling = (1 ≤ wanted paging) × (paging.options.cutoff ≤ weight) × (point ≡ settled_from (wanted paging) (page_end paging) (settling_weight paging weight) (front ++ back))

    how : ((point ≡ 0) × Needless) ⊎ Settling
    how = by_tests (wanted paging == 0) (nat_lt weight paging.options.cutoff) refl refl
      where
        by_tests : (a b : Bool) → (wanted paging == 0) ≡ a → nat_lt weight paging.options.cutoff ≡ b → ((point ≡ 0) × Needless) ⊎ Settling
        by_tests true b e f = inl (ap (λ t. cond (t || nat_lt weight paging.options.cutoff) 0 (settled_from (wanted paging) (page_end paging) (settling_weight paging weight) (found_by query paging docs))) e, inl (is_none (wanted paging) e))
        by_tests false true e f =
            inl (
              ap (λ t. cond (t || nat_lt weight paging.options.cutoff) 0 (settled_from (wanted paging) (page_end paging) (settling_weight paging weight) (found_by query paging docs))) e
                  ∙ ap (λ t. cond t 0 (settled_from (wanted paging) (page_end paging) (settling_weight paging weight) (found_by query paging docs))) f,
              inr (ltb-true weight paging.options.cutoff f),
            )
        by_tests false false e f =
            inr (
              not_zero (wanted paging) e,
              ltb-false weight paging.options.cutoff f,
              ap (λ t. cond (t || nat_lt weight paging.options.cutoff) 0 (settled_from (wanted paging) (page_end paging) (settling_weight paging weight) (found_by query paging docs))) e
                  ∙ ap (λ t. cond t 0 (settled_from (wanted paging) (page_end paging) (settling_weight paging weight) (found_by query paging docs))) f
                  ∙ ap (settled_from (wanted paging) (page_end paging) (settling_weight paging weight)) found_is,
            )

    split : Settling → Within (settling_weight paging weight) (wanted paging) (page_end paging) front back ⊎ Beyond (settling_weight paging weight) (wanted paging) (page_end paging) front back
    split s = let some = s.0 in split_settled (settling_weight paging weight) (wanted paging) (page_end paging) front back (omega (arith, some))

    module _ (held : Held) (c : Option Collapsed) (pages : Pages paging docs walk.last saw held c) (sorted : IsSortedBy (λ (x y : Hit). is_before held.order x.rank y.rank) held.hits) (ceiling : ℕ) where
      abbrev asked : ℕ
      asked = need_for paging.options (length saw) held ceiling

      -- ---- before the point

      asked_of : (o : Option ℕ) (n : ℕ) → need_of held ≡ Some n → nat_lt (length saw) (wanted paging) ≡ false → asked ≡ max n paging.options.cutoff
      asked_of o n e f =
          ap (λ b. cond b paging.options.cutoff (need_at (need_of held) paging.options.cutoff ceiling)) f ∙ ap (λ p. need_at p paging.options.cutoff ceiling) e

      low_by : (k j : ℕ) (w : ℕ) → k ≡ wanted paging - length front → j ≡ page_end paging - heavy (settling_weight paging weight) front → 1 ≤ k + j → (k ≡ 0 → 1 ≤ j → settling_weight paging weight ≤ w) → paging.options.cutoff ≤ w
          → (b : Bool) → nat_lt (length saw) (wanted paging) ≡ b → asked ≤ w
      low_by k j w is_k is_j some heavy_so most true e =
          subst (λ t. t ≤ w) (sym (ap (λ b. cond b paging.options.cutoff (need_at (need_of held) paging.options.cutoff ceiling)) e)) most
      low_by k j w is_k is_j some heavy_so most false e =
          let many = ltb-false (length saw) (wanted paging) e in
          let none : k ≡ 0 = omega (arith, is_k, many, saw_long) in
          let one : 1 ≤ j = omega (arith, some, none) in
          let low = need_low paging docs by flat walk.last saw held c pages sorted weight (omega (arith, is_j, one)) front walk.shown (omega (arith, is_j, one)) in
          let enough = heavy_so none one in
          let small = low.2 in
          subst (λ t. t ≤ w) (sym (asked_of None low.0 low.1 e)) (omega (arith, small, enough, most))

      pub calm_need : IsCalm query paging docs point walk.last asked
      calm_need before within = by_how how
        where
          at_match : (k j : ℕ) → k ≡ wanted paging - length front → j ≡ page_end paging - heavy (settling_weight paging weight) front → 1 ≤ k + j → settled_from k j (settling_weight paging weight) back ≡ point
              → IsSomeAnd (scored_at query paging docs point) (λ w. asked ≤ w)
          at_match k j is_k is_j some is =
              let any = settles (settling_weight paging weight) k j point back is within in
              let t = there query paging (λ d w. Settles (settling_weight paging weight) point k j (ranked query paging d w)) docs walk.before walk.rest walk.split rising
              (of_found query paging (Settles (settling_weight paging weight) point k j) walk.rest any) in
              let own : scored_at query paging docs point ≡ Some t.1 = ap (scored_at query paging docs) (sym t.5.0) ∙ ap (option_and_then (λ d. score query paging.options.scheme 1 d)) t.2 ∙ t.3 in
              subst (λ o. IsSomeAnd o (λ w. asked ≤ w)) (sym own) (low_by k j t.1 is_k is_j some t.5.1 t.4 (nat_lt (length saw) (wanted paging)) refl)

          by_split : Settling → Within (settling_weight paging weight) (wanted paging) (page_end paging) front back ⊎ Beyond (settling_weight paging weight) (wanted paging) (page_end paging) front back → IsSomeAnd (scored_at query paging docs point) (λ w. asked ≤ w)
          by_split s (inl w) =
              let low = w.2 walk.last (found_low query paging walk.last walk.before walk.low) in
              let is = s.2 in
              absurd (omega (arith, before, low, is))
          by_split s (inr b) = at_match b.0 b.1 b.2 b.3 b.4 (sym b.5 ∙ sym s.2)

          by_how : ((point ≡ 0) × Needless) ⊎ Settling → IsSomeAnd (scored_at query paging docs point) (λ w. asked ≤ w)
          by_how (inl n) = let none = n.0 in absurd (omega (arith, before, none))
          by_how (inr s) = by_split s (split s)

      -- ---- from it on

      high_of : (o : Option ℕ) → need_of held ≡ o → nat_lt (length saw) (wanted paging) ≡ false → ((n : ℕ) → o ≡ Some n → weight < max n paging.options.cutoff) → (weight < asked) ⊎ (ceiling < asked)
      high_of None e f h =
          let is : asked ≡ ceiling + 1 = ap (λ b. cond b paging.options.cutoff (need_at (need_of held) paging.options.cutoff ceiling)) f ∙ ap (λ p. need_at p paging.options.cutoff ceiling) e in
          inr (omega (arith, is))
      high_of (Some n) e f h = let more = h n refl in inl (omega (arith, more, asked_of None n e f))

      high_low : weight < paging.options.cutoff → (b : Bool) → nat_lt (length saw) (wanted paging) ≡ b → (weight < asked) ⊎ (ceiling < asked)
      high_low low true e = inl (subst (λ t. weight < t) (sym (ap (λ b. cond b paging.options.cutoff (need_at (need_of held) paging.options.cutoff ceiling)) e)) low)
      high_low low false e = high_of (need_of held) refl e (λ n _. omega (arith, low))

      high_full : wanted paging ≤ length front → page_end paging ≤ heavy (settling_weight paging weight) front → (weight < asked) ⊎ (ceiling < asked)
      high_full many heavy_many = high_of (need_of held) refl (le-ltb (length saw) (wanted paging) seen_many) (by_size (page_end paging == 0) refl)
        where
          seen_many : wanted paging ≤ length saw
          seen_many =
              let same : length (take (wanted paging) front) ≡ length (take (wanted paging) saw) = ap length walk.first in
              omega (arith, same, many, length-take (wanted paging) front, length-take (wanted paging) saw)

          full : (need ≤ paging.options.cutoff) ⊎ (IsFull paging docs saw × ((r : Rank) → r.weight < need → walk.last < r.id → is_behind_page paging.order (held_by paging docs saw) r ≡ true)) → (front ≡ saw) ⊎ (page_end paging ≤ length (best_first paging.order saw))
          full (inl low) = inl (walk.exact low)
          full (inr both) = inr (subst (λ rs. page_end paging ≤ length rs) (kept_flat paging docs by flat saw) both.0)

          some_is : (m n : ℕ) → Some m ≡ Some n → m ≡ n
          some_is m n e = cc

          by_size : (b : Bool) → (page_end paging == 0) ≡ b → (n : ℕ) → need_of held ≡ Some n → weight < max n paging.options.cutoff
          by_size true e n f = absurd (none_is_some (sym (need_none paging docs by flat walk.last saw held c pages sorted (is_none (page_end paging) e)) ∙ f))
            where
              none_is_some : None ≡ Some n → ⊥
              none_is_some g = cc
          by_size false e n f =
              let some = not_zero (page_end paging) e in
              let all = filled (settling_weight paging weight) paging.order (by_weight paging docs by flat paging.order.by by) (page_end paging) front saw (subst (λ rs. Shown (is_behind_page paging.order rs) front saw) (held_flat paging docs by flat saw) walk.shown) (full walk.right) heavy_many in
              let high = need_high paging docs by flat walk.last saw held c pages sorted weight some all.0 all.1 in
              let same = some_is high.0 n (sym high.1 ∙ f) in
              let more = high.2 in
              omega (arith, same, more)

      pub asks_more : point ≤ walk.last → walk.last < last_id → (weight < asked) ⊎ (ceiling < asked)
      asks_more after within = by_how how
        where
          by_split : Settling → Within (settling_weight paging weight) (wanted paging) (page_end paging) front back ⊎ Beyond (settling_weight paging weight) (wanted paging) (page_end paging) front back → (weight < asked) ⊎ (ceiling < asked)
          by_split s (inl w) = high_full w.0 w.1
          by_split s (inr b) =
              let any = settles (settling_weight paging weight) b.0 b.1 point back (sym b.5 ∙ sym s.2) (omega (arith, after, within)) in
              let t = later_id query paging (λ d w. Settles (settling_weight paging weight) point b.0 b.1 (ranked query paging d w)) walk.last walk.rest walk.rises (of_found query paging (Settles (settling_weight paging weight) point b.0 b.1) walk.rest any) in
              let later = t.1 in
              let same = t.6.0 in
              absurd (omega (arith, after, later, same))

          by_how : ((point ≡ 0) × Needless) ⊎ Settling → (weight < asked) ⊎ (ceiling < asked)
          by_how (inl n) = by_needless n.1
            where
              by_needless : Needless → (weight < asked) ⊎ (ceiling < asked)
              by_needless (inl none) = high_full (omega (arith, none)) (omega (arith, none))
              by_needless (inr low) = high_low low (nat_lt (length saw) (wanted paging)) refl
          by_how (inr s) = by_split s (split s)

-- ---- what stays calm

module _ (query : Tree) (paging : Paging) (docs : Docs) (point : ℕ) where
  pub calm_max : (last a b : ℕ) → IsCalm query paging docs point last a → IsCalm query paging docs point last b → IsCalm query paging docs point last (max a b)
  calm_max last a b h g before within = both (scored_at query paging docs point) (h before within) (g before within)
    where
      both : (o : Option ℕ) → IsSomeAnd o (λ w. a ≤ w) → IsSomeAnd o (λ w. b ≤ w) → IsSomeAnd o (λ w. max a b ≤ w)
      both None h g = h
      both (Some w) h g = omega (arith, h, g)

  pub calm_later : (last later need : ℕ) → last ≤ later → IsCalm query paging docs point last need → IsCalm query paging docs point later need
  calm_later last later need up h before within = h (omega (arith, up, before)) within

  pub calm_less : (last less more : ℕ) → less ≤ more → IsCalm query paging docs point last more → IsCalm query paging docs point last less
  calm_less last less more up h before within = lower (scored_at query paging docs point) (h before within)
    where
      lower : (o : Option ℕ) → IsSomeAnd o (λ w. more ≤ w) → IsSomeAnd o (λ w. less ≤ w)
      lower None h = h
      lower (Some w) h = omega (arith, h, up)

-- ---- a search that goes on stands before the point

-- from the point on a search is done
pub done_after : (query : Tree) (paging : Paging) (held : Held) (seen weight ceiling : ℕ) → ceiling ≤ weight
    → (weight < need_for paging.options seen held ceiling) ⊎ (ceiling < need_for paging.options seen held ceiling) → is_settled paging.options seen held ceiling ≡ true
done_after query paging held seen weight ceiling low high = by_cutoff (nat_lt ceiling paging.options.cutoff) refl
  where
    above : (n : ℕ) → need_for paging.options seen held ceiling ≡ n → ceiling < n
    above n e = either high
      where
        either : (weight < need_for paging.options seen held ceiling) ⊎ (ceiling < need_for paging.options seen held ceiling) → ceiling < n
        either (inl l) = omega (arith, l, low, e)
        either (inr l) = omega (arith, l, e)

    le_is : (a b : ℕ) → nat_lt a b ≡ false → nat_le b a ≡ true
    le_is a b e = grind (arith, nat_tests)

    lt_is : (a b : ℕ) → a < b → nat_lt a b ≡ true
    lt_is a b l = grind (arith, nat_tests)

    by_need : (o : Option ℕ) → need_of held ≡ o → paging.options.cutoff ≤ ceiling → nat_lt seen (wanted paging) ≡ false → is_above o ceiling ≡ true
    by_need None e up f = refl
    by_need (Some n) e up f =
        let most = above (max n paging.options.cutoff) (ap (λ b. cond b paging.options.cutoff (need_at (need_of held) paging.options.cutoff ceiling)) f ∙ ap (λ p. need_at p paging.options.cutoff ceiling) e) in
        lt_is ceiling n (omega (arith, most, up))

    by_seen : (b : Bool) → nat_lt seen (wanted paging) ≡ b → paging.options.cutoff ≤ ceiling → (nat_le (wanted paging) seen && is_above (need_of held) ceiling) ≡ true
    by_seen true e up =
        let most = above paging.options.cutoff (ap (λ b. cond b paging.options.cutoff (need_at (need_of held) paging.options.cutoff ceiling)) e) in
        absurd (omega (arith, most, up))
    by_seen false e up = ap (λ b. b && is_above (need_of held) ceiling) (le_is seen (wanted paging) e) ∙ by_need (need_of held) refl up e

    by_cutoff : (b : Bool) → nat_lt ceiling paging.options.cutoff ≡ b → (nat_lt ceiling paging.options.cutoff || (nat_le (wanted paging) seen && is_above (need_of held) ceiling)) ≡ true
    by_cutoff true e = ap (λ b. b || (nat_le (wanted paging) seen && is_above (need_of held) ceiling)) e
    by_cutoff false e = ap (λ b. b || (nat_le (wanted paging) seen && is_above (need_of held) ceiling)) e ∙ by_seen (nat_lt seen (wanted paging)) refl (ltb-false ceiling paging.options.cutoff e)

-- the first that is given stands no later than any
pub first_lowest : (give : ℕ → Option ℕ) (low id h w : ℕ) (document : Document) (docs : Docs) → RiseAbove low docs → document_at id docs ≡ Some document → give id ≡ Some w → first_id (weighed give docs) ≡ Some h → h ≤ id
first_lowest give low id h w document [] up there is first = absurd (cc)
first_lowest give low id h w document (d ∷ docs) up there is first = by_given (give d.0) refl first (first_lowest give d.0 id h w document docs up.1)
  where
    same_id : (a b : ℕ) → (a == b) ≡ true → a ≡ b
    same_id a b e = grind (arith, nat_tests)

    other_id : (a b : ℕ) → (a == b) ≡ false → a ≢ b
    other_id a b e = grind (arith, nat_tests)

    some_is : (a b : ℕ) → Some a ≡ Some b → a ≡ b
    some_is a b e = cc

    none_is : (o : Option ℕ) → o ≡ None → o ≡ Some w → ⊥
    none_is o e f = cc

    none_at : (o : Option Document) → o ≡ None → o ≡ Some document → ⊥
    none_at o e f = cc

    at_or_after : (b : Bool) → (d.0 == id) ≡ b → (c : Bool) → nat_le d.0 id ≡ c → d.0 ≤ id
    at_or_after b e true f = leb-true d.0 id f
    at_or_after true e false f = let same = same_id d.0 id e in omega (arith, same)
    at_or_after false e false f = absurd (none_at (document_at id docs) (found-below d.0 id docs (let l = leb-false d.0 id f in omega (arith, l)) up.1) (sym (found-other id d docs (other_id d.0 id e)) ∙ there))

    tail : (b : Bool) → (d.0 == id) ≡ b → give d.0 ≡ None → document_at id docs ≡ Some document
    tail true e none = absurd (none_is (give id) (ap give (sym (same_id d.0 id e)) ∙ none) is)
    tail false e none = sym (found-other id d docs (other_id d.0 id e)) ∙ there

    by_given : (o : Option ℕ) → give d.0 ≡ o → first_id (cons_option (option_map (λ v. (d.0, v)) o) (weighed give docs)) ≡ Some h
        → (document_at id docs ≡ Some document → give id ≡ Some w → first_id (weighed give docs) ≡ Some h → h ≤ id) → h ≤ id
    by_given None e f rest = rest (tail (d.0 == id) refl e) is f
    by_given (Some v) e f rest = let same = some_is d.0 h f in let l = at_or_after (d.0 == id) refl (nat_le d.0 id) refl in omega (arith, same, l)
