-- A search keeps what its page needs.
use Rattle.std.proofs.Common.{◌≡◌, ◌≢◌, ◌≤◌, ◌<◌, ◌+◌, ℕ, zero, suc, Bool, true, false, not, cond, ◌==◌, List, [], ◌∷◌, ◌++◌, length, take, filter, get_or, All, AllPairs, IsPermutation, Option, None, Some, refl, sym, ap, ◌∙◌, subst, arith, min, length-take, nat_lt, add-one}
use Rattle.std.specs.List.{AllByRecursion, list_all, IsAmong}
use Rattle.std.specs.List.Sorted.{IsSortedBy}
use Rattle.std.proofs.lemmas.Bool.Decides.{nat_tests}
use Rattle.std.proofs.lemmas.List.{length-map, get_or-map, get_or-take}
use Rattle.std.proofs.lemmas.List.Elements.{All-from_recursion, recursion_from_All}
use Rattle.std.proofs.lemmas.List.Sorted.{IsPermutation-to_front, IsPermutation-sym, IsPermutation-cons, IsPermutation-trans}
use Rattle.sk_base.specs.declared.find.Collapse.{Collapse}
use Rattle.sk_base.specs.declared.find.Paging.{Paging}
use Rattle.sk_base.specs.declared.rank.Order.{Order}
use Rattle.sk_base.specs.declared.rank.Rank.{Rank}
use Rattle.sk_base.specs.Before.{is_before}
use Rattle.sk_base.specs.Numbers.{Docs}
use Rattle.sk_model.specs.Matches.{key_of}
use Rattle.sk_model.specs.Page.{place, best_first, kept_of, kept}
use Rattle.sk_model.specs.Counts.{kept_by}
use Rattle.sk_model.proofs.OrderLaws.{before_order, Rises, rises_best_first, sorted_is}
use Rattle.sk_model.proofs.PlacedLaws.{all_placed, ordered_permutation, take_placed}
use Rattle.sk_heap.specs.declared.hit.Hit.{Hit}
use Rattle.sk_heap.specs.Held.{Held, before, ranks_of, placed_hit, last_weight, need_behind, need_of, offered, without_hit}
use Rattle.sk_heap.proofs.HeapLaws.{full_by, ranks_placed, need_keeps_out}
use Rattle.sk_collapse.specs.Collapsed.{Collapsed, kept_in}
use Rattle.sk_collapse.specs.Verdicts.{Judges, without_rank}
use Rattle.sk_collapse.specs.declared.verdict.Verdict.{Verdict}
use Rattle.sk_collapse.proofs.CollapseLaws.{distinct_from, differ_more, best_for_kept, kept_sorted, kept_differ, length-without_rank, pairs_distinct}
use Rattle.sk_collapse.proofs.PlacedLaws.{distinct_best}
use Rattle.std.proofs.lemmas.Bool.{and_from, and_parts}
use Rattle.sk_model.proofs.HeldLaws.{each_weaker}
use Rattle.sk_page.specs.Shown.{is_behind_page}
use Rattle.sk_page.specs.Walks.{page_end, held_by, IsFull, IsBehindPage}
use Rattle.sk_page.specs.Pages.{CollapsesBy, held_by_verdict, SeesBy, Offers, Pages}
use Rattle.sk_page.proofs.FrontLaws.{before_through}

-- ---- lists

all_take : {X : Type 0} (P : X → Type 0) (n : ℕ) (xs : List X) → AllByRecursion P xs → AllByRecursion P (take n xs)
all_take P zero xs h = tt
all_take P (suc n) [] h = tt
all_take P (suc n) (x ∷ xs) h = (h.0, all_take P n xs h.1)

pub all_filter : {X : Type 0} (P : X → Type 0) (p : X → Bool) (xs : List X) → AllByRecursion P xs → AllByRecursion P (filter p xs)
all_filter P p [] h = tt
all_filter P p (x ∷ xs) h =
    elim (p x) as (λ b. AllByRecursion P (cond b (x ∷ filter p xs) (filter p xs))) [
      | true ↦ (h.0, all_filter P p xs h.1)
      | false ↦ all_filter P p xs h.1
    ]

ranks_take : (n : ℕ) (hits : List Hit) → ranks_of (take n hits) ≡ take n (ranks_of hits)
ranks_take zero hits = refl
ranks_take (suc n) [] = refl
ranks_take (suc n) (h ∷ hits) = ap (λ rs. h.rank ∷ rs) (ranks_take n hits)

ranks_without : (id : ℕ) (hits : List Hit) → ranks_of (filter (λ (h : Hit). not (h.rank.id == id)) hits) ≡ without_rank id (ranks_of hits)
ranks_without id [] = refl
ranks_without id (h ∷ hits) =
    elim (h.rank.id == id) as (λ b. ranks_of (cond (not b) (h ∷ filter (λ (h : Hit). not (h.rank.id == id)) hits) (filter (λ (h : Hit). not (h.rank.id == id)) hits)) ≡ cond (not b) (h.rank ∷ without_rank id (ranks_of hits)) (without_rank id (ranks_of hits))) [
      | true ↦ ranks_without id hits
      | false ↦ ap (λ rs. h.rank ∷ rs) (ranks_without id hits)
    ]

ranks_offered : (hit : Hit) (held : Held) → ranks_of (offered hit held).hits ≡ take held.most (place held.order hit.rank (ranks_of held.hits))
ranks_offered hit held = ranks_take held.most (placed_hit held.order hit held.hits) ∙ ap (take held.most) (ranks_placed held.order hit held.hits)

-- ---- one order

module _ (order : Order) where
  sorted_from : (xs : List Rank) → Rises order xs → IsSortedBy (is_before order) xs
  sorted_from [] r = λ k d l m. absurd (omega (arith, m))
  sorted_from (x ∷ []) r = λ k d l m. absurd (omega (arith, m))
  sorted_from (x ∷ y ∷ xs) r = λ k d l m. step k d m (sorted_from (y ∷ xs) r.1)
    where
      step : (k : ℕ) (d : Rank) → k + 1 < length (x ∷ y ∷ xs) → IsSortedBy (is_before order) (y ∷ xs) → is_before order (get_or (x ∷ y ∷ xs) (k + 1) d) (get_or (x ∷ y ∷ xs) k d) ≡ false
      step zero d m rest = r.0.0
      step (suc k) d m rest =
          subst (λ j. is_before order (get_or (x ∷ y ∷ xs) j d) (get_or (y ∷ xs) k d) ≡ false) (sym (add-one (suc k)))
          (subst (λ j. is_before order (get_or (y ∷ xs) j d) (get_or (y ∷ xs) k d) ≡ false) (add-one k) (rest k d (omega arith) (omega (arith, m))))

  pub best_last : (newest saw : List Rank) (x : Rank) → best_first order saw ≡ best_first order newest → AllPairs (λ x y. x.id ≢ y.id) (x ∷ newest) → best_first order (saw ++ x ∷ []) ≡ best_first order (x ∷ newest)
  best_last newest saw x same differ =
      let one : IsPermutation newest saw = IsPermutation-trans newest (best_first order saw) saw (subst (IsPermutation newest) (sym same) (ordered_permutation (is_before order) newest)) (IsPermutation-sym saw (best_first order saw) (ordered_permutation (is_before order) saw)) in
      let two : IsPermutation (x ∷ newest) (saw ++ x ∷ []) = IsPermutation-trans (x ∷ newest) (x ∷ saw) (saw ++ x ∷ []) (IsPermutation-cons x newest saw one) (IsPermutation-sym (saw ++ x ∷ []) (x ∷ saw) (IsPermutation-to_front saw x)) in
      sorted_is order (x ∷ newest) (best_first order (saw ++ x ∷ [])) differ
      (IsPermutation-trans (x ∷ newest) (saw ++ x ∷ []) (best_first order (saw ++ x ∷ [])) two (ordered_permutation (is_before order) (saw ++ x ∷ [])))
      (sorted_from (best_first order (saw ++ x ∷ [])) (rises_best_first order (saw ++ x ∷ [])))

  before_then : (x y r : Rank) → is_before order x y ≡ true → is_before order y r ≡ true → is_before order x r ≡ true
  before_then x y r e f = before_through order x y r e ((before_order order).one_way y r f)

  -- ---- what comes behind the page comes behind it later

  module _ (r : Rank) where
    abbrev leads : Rank → Bool
    leads h = is_before order h r

    all_leads : List Rank → Type 0
    all_leads xs = list_all leads xs ≡ true

    leads_take : (n : ℕ) (xs : List Rank) → list_all leads xs ≡ true → list_all leads (take n xs) ≡ true
    leads_take zero xs h = refl
    leads_take (suc n) [] h = refl
    leads_take (suc n) (x ∷ xs) h = let b = and_parts (leads x) (list_all leads xs) h in and_from (leads x) (list_all leads (take n xs)) b.0 (leads_take n xs b.1)

    leads_less : (n : ℕ) (xs : List Rank) → list_all leads (take (suc n) xs) ≡ true → list_all leads (take n xs) ≡ true
    leads_less zero xs h = refl
    leads_less (suc n) [] h = refl
    leads_less (suc n) (x ∷ xs) h = let b = and_parts (leads x) (list_all leads (take (suc n) xs)) h in and_from (leads x) (list_all leads (take n xs)) b.0 (leads_less n xs b.1)

    leads_without : (id : ℕ) (xs : List Rank) → list_all leads xs ≡ true → list_all leads (without_rank id xs) ≡ true
    leads_without id [] h = refl
    leads_without id (x ∷ xs) h =
        let b = and_parts (leads x) (list_all leads xs) h in
        elim (x.id == id) as (λ c. list_all leads (cond (not c) (x ∷ without_rank id xs) (without_rank id xs)) ≡ true) [
          | true ↦ leads_without id xs b.1
          | false ↦ and_from (leads x) (list_all leads (without_rank id xs)) b.0 (leads_without id xs b.1)
        ]

    leads_placed : (x : Rank) (xs : List Rank) → leads x ≡ true → list_all leads xs ≡ true → list_all leads (place order x xs) ≡ true
    leads_placed x [] e h = and_from (leads x) true e refl
    leads_placed x (y ∷ ys) e h =
        let b = and_parts (leads y) (list_all leads ys) h in
        elim (is_before order x y) as (λ c. list_all leads (cond c (x ∷ y ∷ ys) (y ∷ place order x ys)) ≡ true) [
          | true ↦ and_from (leads x) (list_all leads (y ∷ ys)) e h
          | false ↦ and_from (leads y) (list_all leads (place order x ys)) b.0 (leads_placed x ys e b.1)
        ]

    -- a match that comes to so many
    leads_more : (n : ℕ) (x : Rank) (xs : List Rank) → n ≤ length xs → list_all leads (take n xs) ≡ true → list_all leads (take n (place order x xs)) ≡ true
    leads_more zero x xs l h = refl
    leads_more (suc n) x [] l h = absurd (omega (arith, l))
    leads_more (suc n) x (y ∷ ys) l h =
        let b = and_parts (leads y) (list_all leads (take n ys)) h in
        elim (is_before order x y) as (λ c. is_before order x y ≡ c → list_all leads (take (suc n) (cond c (x ∷ y ∷ ys) (y ∷ place order x ys))) ≡ true) [
          | true ↦ λ e. and_from (leads x) (list_all leads (take n (y ∷ ys))) (before_then x y r e b.0) (leads_less n (y ∷ ys) h)
          | false ↦ λ e. and_from (leads y) (list_all leads (take n (place order x ys))) b.0 (leads_more n x ys (omega (arith, l)) b.1)
        ] refl

    leads_at : (n i : ℕ) (xs : List Rank) (d : Rank) → i < n → i < length xs → list_all leads (take n xs) ≡ true → leads (get_or xs i d) ≡ true
    leads_at zero i xs d l m h = absurd (omega (arith, l))
    leads_at (suc n) i [] d l m h = absurd (omega (arith, m))
    leads_at (suc n) zero (x ∷ xs) d l m h = (and_parts (leads x) (list_all leads (take n xs)) h).0
    leads_at (suc n) (suc i) (x ∷ xs) d l m h = leads_at n i xs d (omega (arith, l)) (omega (arith, m)) (and_parts (leads x) (list_all leads (take n xs)) h).1

  -- what stands before a place differs from what stands there
  other_ids : (a b : ℕ) → a ≢ b → (a == b) ≡ false
  other_ids a b e =
      elim (a == b) as (λ c. (a == b) ≡ c → c ≡ false) [
        | true ↦ λ f. absurd (e (same_ids a b f))
        | false ↦ λ f. refl
      ] refl
    where
      same_ids : (a b : ℕ) → (a == b) ≡ true → a ≡ b
      same_ids a b e = grind (arith, nat_tests)

  apart_front : (n i : ℕ) (xs : List Rank) (y : Rank) → n ≤ i → i < length xs → y ≡ get_or xs i y → AllPairs (λ x y. x.id ≢ y.id) xs → without_rank y.id (take n xs) ≡ take n xs
  apart_front zero i xs y l m e differ = refl
  apart_front (suc n) i [] y l m e differ = refl
  apart_front (suc n) zero (x ∷ xs) y l m e differ = absurd (omega (arith, l))
  apart_front (suc n) (suc i) (x ∷ xs) y l m e differ =
      let other : x.id ≢ y.id = λ f. differ 0 (suc i) y (omega arith) (omega (arith, m)) (f ∙ ap (λ (z : Rank). z.id) e) in
      ap (λ c. cond (not c) (x ∷ without_rank y.id (take n xs)) (without_rank y.id (take n xs))) (other_ids x.id y.id other)
      ∙ ap (λ zs. x ∷ zs) (apart_front n i xs y (omega (arith, l)) (omega (arith, m)) e (λ a b d p q. differ (suc a) (suc b) d (omega (arith, p)) (omega (arith, q))))

  leads_for : (r : Rank) (n : ℕ) (x y : Rank) (xs : List Rank) → n ≤ length xs → IsSortedBy (is_before order) xs → AllPairs (λ x y. x.id ≢ y.id) xs → IsAmong xs y → is_before order x y ≡ true
      → list_all (leads r) (take n xs) ≡ true → list_all (leads r) (take n (place order x (without_rank y.id xs))) ≡ true
  leads_for r n x y xs l sorted differ among first h =
      subst (λ zs. list_all (leads r) zs ≡ true) (sym (best_for_kept order n x y xs sorted differ among first)) (which (nat_lt among.0 n) refl)
    where
      less : (a b : ℕ) → nat_lt a b ≡ true → a < b
      less a b e = grind (arith, nat_tests)

      more : (a b : ℕ) → nat_lt a b ≡ false → b ≤ a
      more a b e = grind (arith, nat_tests)

      which : (b : Bool) → nat_lt among.0 n ≡ b → list_all (leads r) (take n (place order x (without_rank y.id (take n xs)))) ≡ true
      which true e =
          let own : leads r y ≡ true = subst (λ z. leads r z ≡ true) (sym among.1.1) (leads_at r n among.0 xs y (less among.0 n e) among.1.0 h) in
          leads_take r n (place order x (without_rank y.id (take n xs))) (leads_placed r x (without_rank y.id (take n xs)) (before_then x y r first own) (leads_without r y.id (take n xs) h))
      which false e =
          let long : length (take n xs) ≡ min n (length xs) = length-take n xs in
          subst (λ zs. list_all (leads r) (take n (place order x zs)) ≡ true) (sym (apart_front n among.0 xs y (more among.0 n e) among.1.0 among.1.1 differ))
          (leads_more r n x (take n xs) (omega (arith, long, l)) (leads_take r n (take n xs) h))

-- ---- what is kept under a verdict

module _ (paging : Paging) (docs : Docs) where
  abbrev key : Rank → List ℕ
  key = key_of paging.collapse docs

  -- a search that saw nothing
  pub page_start : (held : Held) (c : Option Collapsed) → held ≡ record { order = paging.order; most = page_end paging; room = page_end paging; hits = [] } → CollapsesBy paging.collapse paging.order key [] c → Pages paging docs 0 [] held c
  page_start held c is collapse = subst (λ h. Pages paging docs 0 [] h c) (sym is) (record {
    newest = [];
    same = refl;
    differ = λ i j d l m. absurd (omega (arith, m));
    low = tt;
    order = refl;
    most = refl;
    room = refl;
    hits = sym (none paging.collapse (page_end paging));
    keys = tt;
    under = tt;
    collapse = collapse;
  })
    where
      none : (o : Option Collapse) (n : ℕ) → take n (kept_of o key []) ≡ []
      none None zero = refl
      none None (suc n) = refl
      none (Some c) zero = refl
      none (Some c) (suc n) = refl

  -- the kept matches stand in order, and their ids differ
  kept_orders : (newest : List Rank) → AllPairs (λ x y. x.id ≢ y.id) newest → (o : Option Collapse) (k : Rank → List ℕ) → IsSortedBy (is_before paging.order) (kept paging.order o k newest) × AllPairs (λ x y. x.id ≢ y.id) (kept paging.order o k newest)
  kept_orders newest differ None k = (sorted_from paging.order (best_first paging.order newest) (rises_best_first paging.order newest), pairs_distinct (best_first paging.order newest) (distinct_best paging.order newest (distinct_from newest differ)))
  kept_orders newest differ (Some c) k = (kept_sorted paging.order c.max k newest differ, kept_differ paging.order c.max k newest differ)

  module _ (last : ℕ) (saw : List Rank) (held : Held) (c : Option Collapsed) (pages : Pages paging docs last saw held c) (x : Rank) (later : last < x.id) where
    abbrev Before : List Rank
    Before = kept_by paging docs pages.newest

    abbrev After : List Rank
    After = kept_by paging docs (x ∷ pages.newest)

    pub fresh : All (λ (r : Rank). r.id ≢ x.id) pages.newest
    fresh = All-from_recursion (λ (r : Rank). r.id ≢ x.id) pages.newest (each_weaker (λ (r : Rank). r.id ≤ last) (λ (r : Rank). r.id ≢ x.id) (λ r l e. absurd (omega (arith, l, e, later))) pages.newest pages.low)

    pub fresh_hits : All (λ (h : Hit). h.rank.id ≢ x.id) held.hits
    fresh_hits = All-from_recursion (λ (h : Hit). h.rank.id ≢ x.id) held.hits (each_weaker (λ (h : Hit). h.rank.id ≤ last) (λ (h : Hit). h.rank.id ≢ x.id) (λ h l e. absurd (omega (arith, l, e, later))) held.hits pages.under)

    differs : AllPairs (λ x y. x.id ≢ y.id) (x ∷ pages.newest)
    differs = differ_more x pages.newest pages.differ fresh

    orders : IsSortedBy (is_before paging.order) Before × AllPairs (λ x y. x.id ≢ y.id) Before
    orders = kept_orders pages.newest pages.differ paging.collapse key

    module _ (hit : Hit) (is : hit.rank ≡ x) where
      offered_is : (h : Held) → h.order ≡ paging.order → h.most ≡ page_end paging → ranks_of (offered hit h).hits ≡ take (page_end paging) (place paging.order x (ranks_of h.hits))
      offered_is h order most = ranks_offered hit h ∙ (λ i. take (most i) (place (order i) (is i) (ranks_of h.hits)))

      hits_after : (v : Verdict) → Judges v paging.order key x Before After → ranks_of (held_by_verdict v hit held).hits ≡ take (page_end paging) After
      hits_after Verdict.Keep j =
          offered_is held pages.order pages.most
          ∙ ap (λ rs. take (page_end paging) (place paging.order x rs)) pages.hits
          ∙ take_placed (is_before paging.order) (page_end paging) x Before
          ∙ ap (take (page_end paging)) (sym j)
      hits_after (Verdict.KeepFor id) j =
          let y : Rank = j.0 in
          offered_is (without_hit id held) pages.order pages.most
          ∙ ap (λ rs. take (page_end paging) (place paging.order x rs)) (ranks_without id held.hits ∙ ap (without_rank id) pages.hits)
          ∙ sym (subst (λ n. take (page_end paging) (place paging.order x (without_rank n Before)) ≡ take (page_end paging) (place paging.order x (without_rank n (take (page_end paging) Before)))) j.1
          (best_for_kept paging.order (page_end paging) x y Before orders.0 orders.1 j.2 j.4))
          ∙ ap (take (page_end paging)) (sym j.5)
      hits_after Verdict.Drop j = pages.hits ∙ ap (take (page_end paging)) (sym j)

      module _ (P : Hit → Type 0) (own : P hit) where
        all_offered : (h : Held) → AllByRecursion P h.hits → AllByRecursion P (offered hit h).hits
        all_offered h all = all_take P h.most (placed_hit h.order hit h.hits) (all_placed (before h.order) P hit h.hits own all)

        all_judged : (v : Verdict) → AllByRecursion P held.hits → AllByRecursion P (held_by_verdict v hit held).hits
        all_judged Verdict.Keep all = all_offered held all
        all_judged (Verdict.KeepFor id) all = all_offered (without_hit id held) (all_filter P (λ (h : Hit). not (h.rank.id == id)) held.hits all)
        all_judged Verdict.Drop all = all

      same_order : (v : Verdict) → (held_by_verdict v hit held).order ≡ held.order
      same_order Verdict.Keep = refl
      same_order (Verdict.KeepFor id) = refl
      same_order Verdict.Drop = refl

      same_most : (v : Verdict) → (held_by_verdict v hit held).most ≡ held.most
      same_most Verdict.Keep = refl
      same_most (Verdict.KeepFor id) = refl
      same_most Verdict.Drop = refl

      same_room : (v : Verdict) → (held_by_verdict v hit held).room ≡ held.room
      same_room Verdict.Keep = refl
      same_room (Verdict.KeepFor id) = refl
      same_room Verdict.Drop = refl

      -- one match more
      pub page_more : (v : Verdict) (c2 : Option Collapsed) → hit.key ≡ key x → Judges v paging.order key x Before After → CollapsesBy paging.collapse paging.order key (x ∷ pages.newest) c2
          → Pages paging docs x.id (saw ++ x ∷ []) (held_by_verdict v hit held) c2
      page_more v c2 own j collapse = record {
        newest = x ∷ pages.newest;
        same = best_last paging.order pages.newest saw x pages.same differs;
        differ = differs;
        low = (omega arith, each_weaker (λ (r : Rank). r.id ≤ last) (λ (r : Rank). r.id ≤ x.id) (λ r l. omega (arith, l, later)) pages.newest pages.low);
        order = same_order v ∙ pages.order;
        most = same_most v ∙ pages.most;
        room = same_room v ∙ pages.room;
        hits = hits_after v j;
        keys = all_judged (λ (h : Hit). h.key ≡ key_of paging.collapse docs h.rank) (own ∙ ap key (sym is)) v pages.keys;
        under = all_judged (λ (h : Hit). h.rank.id ≤ x.id) (subst (λ (r : Rank). r.id ≤ x.id) (sym is) (omega arith)) v
            (each_weaker (λ (h : Hit). h.rank.id ≤ last) (λ (h : Hit). h.rank.id ≤ x.id) (λ h l. omega (arith, l, later)) held.hits pages.under);
        collapse = collapse;
      }

    -- what comes behind the page comes behind it with one match more
    newest_kept : kept_by paging docs saw ≡ Before
    newest_kept = ap (kept_of paging.collapse key) pages.same

    leads_on : (v : Verdict) (r : Rank) → Judges v paging.order key x Before After → page_end paging ≤ length Before → is_behind_page paging.order (take (page_end paging) Before) r ≡ true → is_behind_page paging.order (take (page_end paging) After) r ≡ true
    leads_on Verdict.Keep r j full h = subst (λ zs. is_behind_page paging.order (take (page_end paging) zs) r ≡ true) (sym j) (leads_more paging.order r (page_end paging) x Before full h)
    leads_on (Verdict.KeepFor id) r j full h =
        let y : Rank = j.0 in
        subst (λ zs. is_behind_page paging.order (take (page_end paging) zs) r ≡ true) (sym j.5)
        (subst (λ n. is_behind_page paging.order (take (page_end paging) (place paging.order x (without_rank n Before))) r ≡ true) j.1
        (leads_for paging.order r (page_end paging) x y Before full orders.0 orders.1 j.2 j.4 h))
    leads_on Verdict.Drop r j full h = subst (λ zs. is_behind_page paging.order (take (page_end paging) zs) r ≡ true) (sym j) h

    pub page_keeps : (v : Verdict) → Judges v paging.order key x Before After → IsFull paging docs saw → (r : Rank) → IsBehindPage paging docs saw r → IsBehindPage paging docs (saw ++ x ∷ []) r
    page_keeps v j full r h =
        let more : kept_by paging docs (saw ++ x ∷ []) ≡ After = ap (kept_of paging.collapse key) (best_last paging.order pages.newest saw x pages.same differs) in
        subst (λ zs. is_behind_page paging.order (take (page_end paging) zs) r ≡ true) (sym more)
        (leads_on v r j (subst (λ zs. page_end paging ≤ length zs) newest_kept full) (subst (λ zs. is_behind_page paging.order (take (page_end paging) zs) r ≡ true) newest_kept h))

    -- as many are kept with one match more
    pub page_full : (v : Verdict) → Judges v paging.order key x Before After → IsFull paging docs saw → IsFull paging docs (saw ++ x ∷ [])
    page_full v j full =
        let more : kept_by paging docs (saw ++ x ∷ []) ≡ After = ap (kept_of paging.collapse key) (best_last paging.order pages.newest saw x pages.same differs) in
        subst (λ zs. page_end paging ≤ length zs) (sym more) (longer v j (subst (λ zs. page_end paging ≤ length zs) newest_kept full))
      where
        length_place : (y : Rank) (ys : List Rank) → length (place paging.order y ys) ≡ suc (length ys)
        length_place y [] = refl
        length_place y (z ∷ zs) = step (is_before paging.order y z) (length_place y zs)
          where
            step : (b : Bool) → length (place paging.order y zs) ≡ suc (length zs) → length (cond b (y ∷ z ∷ zs) (z ∷ place paging.order y zs)) ≡ suc (suc (length zs))
            step true e = refl
            step false e = ap suc e

        longer : (v : Verdict) → Judges v paging.order key x Before After → page_end paging ≤ length Before → page_end paging ≤ length After
        longer Verdict.Keep j h = let e : length After ≡ length (place paging.order x Before) = ap length j in omega (arith, h, e, length_place x Before)
        longer (Verdict.KeepFor id) j h =
            let y : Rank = j.0 in
            let e : length After ≡ length (place paging.order x (without_rank id Before)) = ap length j.5 in
            let less : suc (length (without_rank id Before)) ≡ length Before = subst (λ n. suc (length (without_rank n Before)) ≡ length Before) j.1 (length-without_rank y Before (distinct_from Before orders.1) j.2) in
            omega (arith, h, e, length_place x (without_rank id Before), less)
        longer Verdict.Drop j h = subst (λ zs. page_end paging ≤ length zs) (sym j) h

  -- the hits of a page stand in order
  pub hits_sorted : (last : ℕ) (saw : List Rank) (held : Held) (c : Option Collapsed) → Pages paging docs last saw held c → IsSortedBy (λ (x y : Hit). is_before held.order x.rank y.rank) held.hits
  hits_sorted last saw held c pages k d low m =
      let long : length (ranks_of held.hits) ≡ length held.hits = length-map held.hits (λ (h : Hit). h.rank) in
      let same : length (ranks_of held.hits) ≡ length (take (page_end paging) (kept_by paging docs pages.newest)) = ap length pages.hits in
      let short : length (take (page_end paging) (kept_by paging docs pages.newest)) ≡ min (page_end paging) (length (kept_by paging docs pages.newest)) = length-take (page_end paging) (kept_by paging docs pages.newest) in
      subst (λ (o : Order). is_before o (get_or held.hits (k + 1) d).rank (get_or held.hits k d).rank ≡ false) (sym pages.order)
      (subst (λ (r : Rank). is_before paging.order (get_or held.hits (k + 1) d).rank r ≡ false) (rank_at k (omega (arith, m)))
      (subst (λ (r : Rank). is_before paging.order r (get_or (kept_by paging docs pages.newest) k d.rank) ≡ false) (rank_at (k + 1) (omega (arith, m)))
      ((kept_orders pages.newest pages.differ paging.collapse key).0 k d.rank (omega arith) (omega (arith, m, long, same, short)))))
    where
      rank_at : (j : ℕ) → j < length held.hits → get_or (kept_by paging docs pages.newest) j d.rank ≡ (get_or held.hits j d).rank
      rank_at j l =
          let long : length (ranks_of held.hits) ≡ length held.hits = length-map held.hits (λ (h : Hit). h.rank) in
          let same : length (ranks_of held.hits) ≡ length (take (page_end paging) (kept_by paging docs pages.newest)) = ap length pages.hits in
          let short : length (take (page_end paging) (kept_by paging docs pages.newest)) ≡ min (page_end paging) (length (kept_by paging docs pages.newest)) = length-take (page_end paging) (kept_by paging docs pages.newest) in
          sym (get_or-take (page_end paging) (kept_by paging docs pages.newest) j d.rank (omega (arith, l, long, same, short)))
          ∙ ap (λ rs. get_or rs j d.rank) (sym pages.hits)
          ∙ get_or-map (λ (h : Hit). h.rank) held.hits j d d.rank l

  -- ---- a match that is offered

  module _ (last : ℕ) (saw : List Rank) (held held2 : Held) (c c2 : Option Collapsed) (hit : Hit) where
    pub record More (pages : Pages paging docs last saw held c) : Type 0 where
      pub pages2 : Pages paging docs hit.rank.id (saw ++ hit.rank ∷ []) held2 c2
      pub keeps : IsFull paging docs saw → (r : Rank) → IsBehindPage paging docs saw r → IsBehindPage paging docs (saw ++ hit.rank ∷ []) r
      pub full : IsFull paging docs saw → IsFull paging docs (saw ++ hit.rank ∷ [])

    judged_is : (o : Option Collapse) (k : Rank → List ℕ) (newest : List Rank) (v : Verdict) (c c2 : Option Collapsed) → CollapsesBy o paging.order k newest c → SeesBy c c2 v hit → k hit.rank ≡ hit.key → All (λ (r : Rank). r.id ≢ hit.rank.id) newest
        → Judges v paging.order k hit.rank (kept paging.order o k newest) (kept paging.order o k (hit.rank ∷ newest)) × CollapsesBy o paging.order k (hit.rank ∷ newest) c2
    judged_is None k newest v None None h s own apart = (subst (λ u. Judges u paging.order k hit.rank (best_first paging.order newest) (place paging.order hit.rank (best_first paging.order newest))) (sym s) refl, tt)
    judged_is None k newest v None (Some d) h s own apart = absurd s
    judged_is None k newest v (Some c) c2 h s own apart = absurd h
    judged_is (Some o) k newest v None c2 h s own apart = absurd h
    judged_is (Some o) k newest v (Some c) None h s own apart = absurd s
    judged_is (Some o) k newest v (Some c) (Some d) h s own apart =
        let both = s.2 k newest h.2 own apart in (
          subst (λ m. Judges v paging.order k hit.rank (kept_in paging.order m k newest) (kept_in paging.order m k (hit.rank ∷ newest))) h.1
              (subst (λ (p : Order). Judges v p k hit.rank (kept_in p c.most k newest) (kept_in p c.most k (hit.rank ∷ newest))) h.0 both.1),
          (s.0 ∙ h.0, s.1 ∙ h.1, both.0),
        )

    pub page_offered : (pages : Pages paging docs last saw held c) → last < hit.rank.id → hit.key ≡ key hit.rank → Offers held held2 c c2 hit → More pages
    page_offered pages later own offers =
        let j = judged_is paging.collapse key pages.newest offers.verdict c c2 pages.collapse offers.sees (sym own) (fresh last saw held c pages hit.rank later) in
        record {
          pages2 = subst (λ h. Pages paging docs hit.rank.id (saw ++ hit.rank ∷ []) h c2) (sym offers.heap) (page_more last saw held c pages hit.rank later hit refl offers.verdict c2 own j.0 j.1);
          keeps = page_keeps last saw held c pages hit.rank later offers.verdict j.0;
          full = page_full last saw held c pages hit.rank later offers.verdict j.0;
        }

  -- behind a later id
  pub page_later : (last later : ℕ) (saw : List Rank) (held : Held) (c : Option Collapsed) → last ≤ later → Pages paging docs last saw held c → Pages paging docs later saw held c
  page_later last later saw held c up pages = record {
    newest = pages.newest;
    same = pages.same;
    differ = pages.differ;
    low = each_weaker (λ (r : Rank). r.id ≤ last) (λ (r : Rank). r.id ≤ later) (λ r l. omega (arith, l, up)) pages.newest pages.low;
    order = pages.order;
    most = pages.most;
    room = pages.room;
    hits = pages.hits;
    keys = pages.keys;
    under = each_weaker (λ (h : Hit). h.rank.id ≤ last) (λ (h : Hit). h.rank.id ≤ later) (λ h l. omega (arith, l, up)) held.hits pages.under;
    collapse = pages.collapse;
  }

  -- ---- what the heap's need says

  module _ (last : ℕ) (saw : List Rank) (held : Held) (c : Option Collapsed) (pages : Pages paging docs last saw held c) where
    pub held_is : ranks_of held.hits ≡ held_by paging docs saw
    held_is = pages.hits ∙ ap (λ rs. take (page_end paging) (kept_of paging.collapse key rs)) (sym pages.same)

    all_behind : (r : Rank) (hits : List Hit) → AllByRecursion (λ (h : Hit). is_before held.order h.rank r ≡ true) hits → is_behind_page held.order (ranks_of hits) r ≡ true
    all_behind r [] h = refl
    all_behind r (x ∷ hits) h = and_from (is_before held.order x.rank r) (is_behind_page held.order (ranks_of hits) r) h.0 (all_behind r hits h.1)

    pub page_is_full : (n : ℕ) → need_of held ≡ Some n → 0 < n → IsFull paging docs saw
    page_is_full n e some =
        let most : held.most ≤ length held.hits = full_by held n e some in
        let ranks : length (ranks_of held.hits) ≡ length held.hits = length-map held.hits (λ (h : Hit). h.rank) in
        let same : length (ranks_of held.hits) ≡ length (held_by paging docs saw) = ap length held_is in
        let short : length (held_by paging docs saw) ≡ min (page_end paging) (length (kept_by paging docs saw)) = length-take (page_end paging) (kept_by paging docs saw) in
        omega (arith, most, ranks, same, short, pages.most)

    pub page_passes : IsSortedBy (λ (x y : Hit). is_before held.order x.rank y.rank) held.hits → (n : ℕ) → need_of held ≡ Some n → (r : Rank) → r.weight < n → last < r.id → IsBehindPage paging docs saw r
    page_passes sorted n e r less above =
        let after = need_keeps_out held n r sorted e less (All-from_recursion (λ (h : Hit). h.rank.id < r.id) held.hits (each_weaker (λ (h : Hit). h.rank.id ≤ last) (λ (h : Hit). h.rank.id < r.id) (λ h l. omega (arith, l, above)) held.hits pages.under)) in
        subst (λ (rs : List Rank). is_behind_page paging.order rs r ≡ true) held_is
        (subst (λ (o : Order). is_behind_page o (ranks_of held.hits) r ≡ true) pages.order (all_behind r held.hits (recursion_from_All (λ (h : Hit). is_before held.order h.rank r ≡ true) held.hits after)))

    none_most : need_of held ≡ None → held.most ≡ 0
    none_most e =
        elim (held.most == 0) as (λ z. (held.most == 0) ≡ z → cond z None (cond (nat_lt (length held.hits) held.most) (Some 0) (Some (need_behind held.order.by held.order.falling (last_weight held.hits)))) ≡ None → held.most ≡ 0) [
          | true ↦ λ g f. zero_is held.most g
          | false ↦ λ g f. elim (nat_lt (length held.hits) held.most) as (λ b. cond b (Some 0) (Some (need_behind held.order.by held.order.falling (last_weight held.hits))) ≡ None → held.most ≡ 0) [
            | true ↦ λ k. absurd (cc)
            | false ↦ λ k. absurd (cc)
          ] f
        ] refl e
      where
        zero_is : (a : ℕ) → (a == 0) ≡ true → a ≡ 0
        zero_is a e = grind (arith, nat_tests)

    pub page_of_none : need_of held ≡ None → IsFull paging docs saw × ((r : Rank) → IsBehindPage paging docs saw r)
    page_of_none e =
        let none : page_end paging ≡ 0 = sym pages.most ∙ none_most e in
        (omega (arith, none), λ r. ap (λ n. is_behind_page paging.order (take n (kept_by paging docs saw)) r) none)
