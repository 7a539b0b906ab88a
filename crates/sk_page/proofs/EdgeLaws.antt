-- A page by value that passes over matches whose values come behind its worst hit.
use Rattle.std.proofs.Common.{◌≡◌, ◌≤◌, ◌<◌, ◌+◌, ◌-◌, ◌⊎◌, ◌^◌, ℕ, suc, false, cond, nat_le, min, List, [], ◌∷◌, ◌++◌, length, Option, None, Some, option_map, unwrap_or, refl, sym, ap, ◌∙◌, subst, arith, inl, inr}
use Rattle.std.specs.List.{AllByRecursion, cons_option}
use Rattle.std.specs.Ordering.{is_le}
use Rattle.std.proofs.lemmas.Bool.{le-leb, lt-leb}
use Rattle.std.proofs.lemmas.List.{length-append}
use Rattle.sk_base.specs.declared.find.Paging.{Paging}
use Rattle.sk_base.specs.declared.rank.Order.{Order}
use Rattle.sk_base.specs.declared.rank.OrderBy.{OrderBy}
use Rattle.sk_base.specs.declared.rank.SortKey.{SortKey}
use Rattle.sk_base.specs.Before.{value_cmp}
use Rattle.sk_base.specs.Numbers.{Docs}
use Rattle.sk_sorted.specs.Entries.{RiseAbove, AreSorted, first_id}
use Rattle.sk_sorted.proofs.EntryLaws.{length_fits}
use Rattle.sk_query.specs.Trees.{Tree}
use Rattle.sk_model.specs.Allowance.{key_readings, value_readings}
use Rattle.sk_model.specs.Covers.{CoversAt}
use Rattle.sk_model.specs.Documents.{Document}
use Rattle.sk_model.specs.Edits.{document_at}
use Rattle.sk_model.specs.Matches.{key_for, found_by}
use Rattle.sk_heap.specs.declared.hit.Hit.{Hit}
use Rattle.sk_heap.specs.Held.{offered}
use Rattle.sk_collapse.specs.Collapsed.{Collapsed}
use Rattle.sk_collapse.specs.declared.verdict.Verdict.TheVariants as Verdict
use Rattle.sk_page.specs.Shown.{is_behind_page}
use Rattle.sk_page.specs.Walks.{held_by, Walk}
use Rattle.sk_page.specs.Pages.{SeesBy}
use Rattle.sk_page.specs.Hits.{value_in_slot, value_in_order}
use Rattle.sk_page.specs.Views.{PageOf, Sees, IsEdge}
use Rattle.sk_page.specs.declared.page.Page.{Page}
use Rattle.sk_page.proofs.ShownLaws.{shown_beside}
use Rattle.sk_page.proofs.WalkLaws.{weighed, first_weight, scores}
use Rattle.sk_page.proofs.FewerLaws.{same_given, none_either}
use Rattle.sk_page.proofs.SeeLaws.{found_few, looked_at, gone_on}

-- ---- lists

all_parts : {X : Type 0} (P : X → Type 0) (xs ys : List X) → AllByRecursion P (xs ++ ys) → AllByRecursion P xs × AllByRecursion P ys
all_parts P [] ys h = (tt, h)
all_parts P (x ∷ xs) ys h = let rest = all_parts P xs ys h.1 in ((h.0, rest.0), rest.1)

all_with : {X : Type 0} (P Q R : X → Type 0) (xs : List X) → ((x : X) → P x → Q x → R x) → AllByRecursion P xs → AllByRecursion Q xs → AllByRecursion R xs
all_with P Q R [] f h g = tt
all_with P Q R (x ∷ xs) f h g = (f x h.0 g.0, all_with P Q R xs f h.1 g.1)

all_so : {X : Type 0} (P : X → Type 0) (xs : List X) → ((x : X) → P x) → AllByRecursion P xs
all_so P [] f = tt
all_so P (x ∷ xs) f = (f x, all_so P xs f)

-- ---- what is given behind the first

-- from an id on
abbrev pub behind : ℕ → (ℕ → Option ℕ) → ℕ → Option ℕ
behind h give id = cond (nat_le (h + 1) id) (give id) None

same_behind : (h low : ℕ) (give : ℕ → Option ℕ) (docs : Docs) → RiseAbove low docs → h ≤ low → weighed (behind h give) docs ≡ weighed give docs
same_behind h low give [] up le = refl
same_behind h low give (d ∷ docs) up le =
    ap (λ b. cons_option (option_map (λ w. (d.0, w)) (cond b (give d.0) None)) (weighed (behind h give) docs)) (le-leb (h + 1) d.0 (omega (arith, up.0, le)))
    ∙ ap (cons_option (option_map (λ w. (d.0, w)) (give d.0))) (same_behind h d.0 give docs up.1 (omega (arith, up.0, le)))

pub weighed_behind_first : (h w low : ℕ) (rest : List (ℕ × ℕ)) (give : ℕ → Option ℕ) (docs : Docs) → RiseAbove low docs → weighed give docs ≡ (h, w) ∷ rest → weighed (behind h give) docs ≡ rest
weighed_behind_first h w low rest give [] up e = let long : 0 ≡ suc (length rest) = ap length e in absurd (omega (arith, long))
weighed_behind_first h w low rest give (d ∷ docs) up e = step (give d.0) refl e (weighed_behind_first h w d.0 rest give docs up.1)
  where
    step : (o : Option ℕ) → give d.0 ≡ o → cons_option (option_map (λ w. (d.0, w)) o) (weighed give docs) ≡ (h, w) ∷ rest → (weighed give docs ≡ (h, w) ∷ rest → weighed (behind h give) docs ≡ rest)
        → weighed (behind h give) (d ∷ docs) ≡ rest
    step None none f later =
        ap (λ o. cons_option (option_map (λ w. (d.0, w)) (cond (nat_le (h + 1) d.0) o None)) (weighed (behind h give) docs)) none
        ∙ ap (λ o. cons_option (option_map (λ w. (d.0, w)) o) (weighed (behind h give) docs)) (none_either (nat_le (h + 1) d.0))
        ∙ later f
    step (Some v) some f later =
        let same : d.0 ≡ h = ap (λ (ps : List (ℕ × ℕ)). unwrap_or (first_id ps) 0) f in
        ap (λ b. cons_option (option_map (λ w. (d.0, w)) (cond b (give d.0) None)) (weighed (behind h give) docs)) (lt-leb (h + 1) d.0 (omega (arith, same)))
        ∙ same_behind h d.0 give docs up.1 (omega (arith, same))
        ∙ ap (λ (ps : List (ℕ × ℕ)). tail ps) f
      where
        tail : List (ℕ × ℕ) → List (ℕ × ℕ)
        tail [] = []
        tail (p ∷ ps) = ps

-- ---- pages

-- both give the same of a document
abbrev Alike : (ℕ → Option ℕ) → (ℕ → Option ℕ) → ℕ × Document → Type 0
Alike give give2 one = give one.0 ≡ give2 one.0

-- a match that weighs the cutoff, and whose value comes behind the last one
abbrev pub FallsOut : Paging → Docs → SortKey → List ℕ → ℕ × ℕ → Type 0
FallsOut paging docs key last p = (paging.options.cutoff ≤ p.1) × (is_le (value_cmp key (value_in_slot key.slot (document_at p.0 docs)) last) ≡ false)

module _ (query : Tree) (paging : Paging) (docs : Docs) (greatest need : ℕ) (sorted : AreSorted docs) where
  -- a page is the same for all that give the same
  page_same : (give give2 : ℕ → Option ℕ) (page : Page) → PageOf page query paging docs greatest give need → weighed give docs ≡ weighed give2 docs → PageOf page query paging docs greatest give2 need
  page_same give give2 page of e = record {
    options = of.options;
    order = of.order;
    collapse = of.collapse;
    saw = of.saw;
    seen = of.seen;
    walk = record {
      last = walk.last;
      before = walk.before;
      rest = walk.rest;
      split = walk.split;
      shown = walk.shown;
      first = walk.first;
      exact = walk.exact;
      few = walk.few;
      quiet = all_with (Alike give give2) (λ (one : ℕ × Document). give one.0 ≡ None) (λ (one : ℕ × Document). give2 one.0 ≡ None) walk.before (λ one s n. sym s ∙ n) parts.0 walk.quiet;
      low = walk.low;
      under = walk.under;
      rises = walk.rises;
      covers = all_with (Alike give give2) (λ (one : ℕ × Document). CoversAt (scores query paging one) (give one.0) need) (λ (one : ℕ × Document). CoversAt (scores query paging one) (give2 one.0) need) walk.rest
          (λ one s c. subst (λ o. CoversAt (scores query paging one) o need) s c) parts.1 walk.covers;
      right = walk.right;
    };
    pages = of.pages;
    read = of.read;
    calm = of.calm;
  }
    where
      walk : Walk query paging docs give need of.saw
      walk = of.walk

      parts : AllByRecursion (Alike give give2) walk.before × AllByRecursion (Alike give give2) walk.rest
      parts = all_parts (Alike give give2) walk.before walk.rest (subst (AllByRecursion (Alike give give2)) walk.split (same_given (λ one. give one.0) (λ one. give2 one.0) 0 docs sorted.rise e))

  -- no more are seen than there are
  page_few : (give : ℕ → Option ℕ) (page : Page) → PageOf page query paging docs greatest give need → page.seen < 2 ^ 32
  page_few give page of =
      let walk = of.walk in
      let saw_few = (shown_beside (is_behind_page paging.order (held_by paging docs of.saw)) (λ _. []) (λ _ _ _. refl) (found_by query paging walk.before) of.saw walk.shown).long in
      let found = found_few query paging walk.before in
      let all : length docs ≡ length (walk.before ++ walk.rest) = ap length walk.split in
      let both : length (walk.before ++ walk.rest) ≡ length walk.before + length walk.rest = length-append walk.before walk.rest in
      let small = length_fits docs sorted in
      omega (arith, saw_few, found, all, both, small, of.seen)

  -- the page of a search that saw the first, and is given all behind it
  pub gone_behind : (give : ℕ → Option ℕ) (page : Page) (of : PageOf page query paging docs greatest give need) (h w : ℕ) → first_id (weighed give docs) ≡ Some h → w ≡ first_weight (weighed give docs) → (mid : Page)
      → paging.options.cutoff ≤ w → Sees docs h w page mid → PageOf mid query paging docs greatest (behind h give) need
  gone_behind give page of h w head weight mid enough sees =
      let looked = looked_at query paging docs greatest give need page of sorted h w head weight mid enough sees in
      gone_on query paging docs greatest give need page of sorted h w head weight mid looked.0 looked.1 0 need (behind h give) (inl refl)
      (all_so (λ (one : ℕ × Document). CoversAt (behind h give one.0) (behind h give one.0) need) docs (λ one. itself (behind h give one.0)))
    where
      itself : (o : Option ℕ) → CoversAt o o need
      itself None = tt
      itself (Some v) = (omega arith, λ _. refl)

  module _ (key : SortKey) (last : List ℕ) where
    value_is : (by : OrderBy) (o : Option Document) → (by ≡ OrderBy.Value key) ⊎ (by ≡ OrderBy.ValueThenRelevance key) → value_in_order by o ≡ value_in_slot key.slot o
    value_is by None is = refl
    value_is by (Some d) (inl e) = ap (λ by. value_in_order by (Some d)) e
    value_is by (Some d) (inr e) = ap (λ by. value_in_order by (Some d)) e

    -- one of them is seen
    seen_one : (give : ℕ → Option ℕ) (page : Page) (of : PageOf page query paging docs greatest give need) → IsEdge page key last → (h w : ℕ) (rest : List (ℕ × ℕ)) → weighed give docs ≡ (h, w) ∷ rest → FallsOut paging docs key last (h, w)
        → PageOf (record page { seen = page.seen + 1 }) query paging docs greatest (behind h give) need
    seen_one give page of edge h w rest e falls = record {
      options = gone.options;
      order = gone.order;
      collapse = gone.collapse;
      saw = gone.saw;
      seen = gone.seen;
      walk = gone.walk;
      pages = gone.pages;
      read = let r = gone.read in omega (arith, r);
      calm = gone.calm;
    }
      where
        head : first_id (weighed give docs) ≡ Some h
        head = ap first_id e

        weight : w ≡ first_weight (weighed give docs)
        weight = sym (ap first_weight e)

        hit : Hit
        hit = record { rank = record { weight = w; value = value_in_order page.order.by (document_at h docs); id = h }; key = key_for page.collapse (document_at h docs) }

        by_page : page.order ≡ page.heap.order
        by_page = of.order ∙ sym of.pages.order

        value_there : value_in_order page.order.by (document_at h docs) ≡ value_in_slot key.slot (document_at h docs)
        value_there = ap (λ (o : Order). value_in_order o.by (document_at h docs)) by_page ∙ value_is page.heap.order.by (document_at h docs) edge.by

        out : offered hit page.heap ≡ page.heap
        out = edge.falls hit (ap (λ v. is_le (value_cmp key v last)) value_there ∙ falls.1)

        mid : Page
        mid = record page { seen = page.seen + 1; read = page.read + (value_readings page.order.by 1 + key_readings page.collapse 1) }

        sees : Sees docs h w page mid
        sees = record {
          hit = hit;
          rank = refl;
          key = refl;
          offers = record { verdict = Verdict.Keep; heap = sym out; sees = subst (λ (c : Option Collapsed). SeesBy c c Verdict.Keep hit) (sym edge.single) refl };
          seen = refl;
          read = refl;
          options = refl;
          order = refl;
          collapse = refl;
        }

        gone : PageOf mid query paging docs greatest (behind h give) need
        gone = gone_behind give page of h w head weight mid falls.0 sees

    page_skips : (ps : List (ℕ × ℕ)) (give give2 : ℕ → Option ℕ) (page : Page) → PageOf page query paging docs greatest give need → IsEdge page key last → weighed give docs ≡ ps ++ weighed give2 docs
        → AllByRecursion (FallsOut paging docs key last) ps → PageOf (record page { seen = page.seen + length ps }) query paging docs greatest give2 need
    page_skips [] give give2 page of edge e all =
        subst (λ n. PageOf (record page { seen = n }) query paging docs greatest give2 need) (omega arith) (page_same give give2 page of e)
    page_skips (p ∷ ps) give give2 page of edge e all =
        let on = seen_one give page of edge p.0 p.1 (ps ++ weighed give2 docs) e all.0 in
        let rest = weighed_behind_first p.0 p.1 0 (ps ++ weighed give2 docs) give docs sorted.rise e in
        let more = page_skips ps (behind p.0 give) give2 (record page { seen = page.seen + 1 }) on (record { single = edge.single; by = edge.by; falls = edge.falls }) rest all.1 in
        subst (λ n. PageOf (record page { seen = n }) query paging docs greatest give2 need) (omega arith) more

    -- so many are seen, and no more than a page may
    pub page_counts : (count : ℕ) (ps : List (ℕ × ℕ)) (give give2 : ℕ → Option ℕ) (page : Page) → PageOf page query paging docs greatest give need → IsEdge page key last → weighed give docs ≡ ps ++ weighed give2 docs → count ≡ length ps
        → AllByRecursion (FallsOut paging docs key last) ps → PageOf (record page { seen = min (2 ^ 32 - 1) (page.seen + count) }) query paging docs greatest give2 need
    page_counts count ps give give2 page of edge e counted all =
        let on = page_skips ps give give2 page of edge e all in
        let few = page_few give2 (record page { seen = page.seen + length ps }) on in
        subst (λ n. PageOf (record page { seen = n }) query paging docs greatest give2 need) (omega (arith, counted, few)) on
