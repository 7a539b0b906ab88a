-- A page that saw nothing, that sees the document at the head of what a search is given, and that goes past it.
use Rattle.std.proofs.Common.{◌≡◌, ◌≢◌, ◌≤◌, ◌<◌, ◌+◌, ◌⊎◌, ◌^◌, ℕ, suc, Bool, true, false, cond, ◌==◌, nat_le, nat_lt, max, List, [], ◌∷◌, ◌++◌, length, All, Option, None, Some, unwrap_or, refl, sym, ap, ◌∙◌, subst, arith, inl, inr, true≢false, IfSome, append-nil}
use Rattle.std.specs.List.{AllByRecursion}
use Rattle.std.specs.Option.{option_and_then, IsSomeAnd}
use Rattle.std.proofs.lemmas.Bool.Decides.{nat_tests}
use Rattle.std.proofs.lemmas.List.{length-append, append_assoc}
use Rattle.std.proofs.lemmas.List.Elements.{All-from_recursion}
use Rattle.std.proofs.lemmas.Bool.{le-leb, lt-leb, ltb-false, ltb-true}
use Rattle.sk_base.specs.declared.find.Collapse.{Collapse}
use Rattle.sk_base.specs.declared.find.Paging.{Paging}
use Rattle.sk_base.specs.declared.rank.Rank.{Rank}
use Rattle.sk_base.specs.declared.rank.Order.{Order}
use Rattle.sk_base.specs.declared.rank.OrderBy.{OrderBy}
use Rattle.sk_base.specs.Before.{is_before}
use Rattle.sk_base.specs.Numbers.{Docs}
use Rattle.sk_sorted.specs.Entries.{RiseAbove, LieBelow, AreSorted, first_id}
use Rattle.sk_sorted.proofs.EntryLaws.{found-here, found-other, length_fits}
use Rattle.sk_query.specs.Trees.{Tree}
use Rattle.sk_model.specs.Allowance.{key_readings, value_readings}
use Rattle.sk_model.specs.Counts.{wanted}
use Rattle.sk_model.specs.Covers.{CoversAt}
use Rattle.sk_model.specs.Documents.{Document}
use Rattle.sk_model.specs.Edits.{document_at, last_id}
use Rattle.sk_model.specs.Matches.{value_by, key_for, key_of, found_by}
use Rattle.sk_model.specs.Scores.{score}
use Rattle.sk_model.specs.Settled.{settled}
use Rattle.sk_model.specs.Sharp.{is_plain}
use Rattle.sk_model.proofs.PlacedLaws.{length-ordered}
use Rattle.sk_heap.specs.declared.hit.Hit.{Hit}
use Rattle.sk_collapse.specs.Collapsed.{Collapsed, group_of}
use Rattle.sk_collapse.proofs.CollapseLaws.{knows_differ}
use Rattle.sk_page.specs.Shown.{is_behind_page}
use Rattle.sk_page.specs.Walks.{held_by, IsFull, IsBehindPage, IsNeed, Walk}
use Rattle.sk_page.specs.Pages.{CollapsesBy, Pages}
use Rattle.sk_page.specs.Needs.{is_settled, need_for}
use Rattle.sk_page.specs.Calm.{IsCalm}
use Rattle.sk_page.specs.Hits.{value_in_order}
use Rattle.sk_page.specs.Views.{OpensPage, PageOf, MaySee, Sees}
use Rattle.sk_page.specs.declared.page.Page.{Page}
use Rattle.sk_page.proofs.ShownLaws.{shown_beside}
use Rattle.sk_page.proofs.WalkLaws.{AtHead, weighed, weighed_behind, first_weight, taken, ranked, scores, found_step, the_head, walked, started, all_append}
use Rattle.sk_page.proofs.PageLaws.{page_start, page_offered, page_later, fresh, hits_sorted}
use Rattle.sk_page.proofs.NeedLaws.{need_max, need_on, need_right, need_few}
use Rattle.sk_page.proofs.StopLaws.{calm_need, asks_more, given_there, done_after, first_lowest, calm_max, calm_later, calm_less}
use Rattle.sk_page.proofs.SharpLaws.{plain_is}

-- ---- lists

-- no more match than there are
pub found_few : (query : Tree) (paging : Paging) (docs : Docs) → length (found_by query paging docs) ≤ length docs
found_few query paging [] = omega arith
found_few query paging (d ∷ docs) = few (scores query paging d) (found_step query paging d docs (scores query paging d) refl) (found_few query paging docs)
  where
    few : (o : Option ℕ) → found_by query paging (d ∷ docs) ≡ taken query paging d o ++ found_by query paging docs → length (found_by query paging docs) ≤ length docs → length (found_by query paging (d ∷ docs)) ≤ suc (length docs)
    few None e h = let long : length (found_by query paging (d ∷ docs)) ≡ length (found_by query paging docs) = ap length e in omega (arith, long, h)
    few (Some w) e h =
        let long : length (found_by query paging (d ∷ docs)) ≡ length (taken query paging d (Some w) ++ found_by query paging docs) = ap length e in
        let both : length (taken query paging d (Some w) ++ found_by query paging docs) ≡ length (taken query paging d (Some w)) + length (found_by query paging docs) = length-append (taken query paging d (Some w)) (found_by query paging docs) in
        let one : length (taken query paging d (Some w)) ≤ 1 = at_one (nat_le paging.options.cutoff w) in
        omega (arith, long, both, one, h)
      where
        at_one : (b : Bool) → length (cond b (ranked query paging d w ∷ []) []) ≤ 1
        at_one true = omega arith
        at_one false = omega arith

found_at : (h : ℕ) (xs ys : Docs) (one : ℕ × Document) → AllByRecursion (λ (d : ℕ × Document). d.0 < h) xs → one.0 ≡ h → document_at h (xs ++ one ∷ ys) ≡ Some one.1
found_at h [] ys one low is = found-here h one ys is
found_at h (x ∷ xs) ys one low is = found-other h x (xs ++ one ∷ ys) (λ e. absurd (omega (arith, low.0, e))) ∙ found_at h xs ys one low.1 is

all_less : (last h : ℕ) (ds : Docs) → last < h → AllByRecursion (λ (d : ℕ × Document). d.0 ≤ last) ds → AllByRecursion (λ (d : ℕ × Document). d.0 < h) ds
all_less last h [] up all = tt
all_less last h (d ∷ ds) up all = (omega (arith, up, all.0), all_less last h ds up all.1)

hits_less : (last h : ℕ) (hits : List Hit) → last < h → AllByRecursion (λ (x : Hit). x.rank.id ≤ last) hits → AllByRecursion (λ (x : Hit). x.rank.id < h) hits
hits_less last h [] up all = tt
hits_less last h (x ∷ hits) up all = (omega (arith, up, all.0), hits_less last h hits up all.1)

more_keys : (c : Option Collapse) (n : ℕ) → key_readings c (n + 1) ≡ key_readings c n + key_readings c 1
more_keys None n = omega arith
more_keys (Some c) n = omega arith

more_values : (by : OrderBy) (n : ℕ) → value_readings by (n + 1) ≡ value_readings by n + value_readings by 1
more_values OrderBy.Relevance n = omega arith
more_values (OrderBy.Value k) n = omega arith
more_values (OrderBy.ValueThenRelevance k) n = omega arith
more_values (OrderBy.RelevanceThenValue k) n = omega arith

few_keys : (c : Option Collapse) (n : ℕ) → key_readings c n ≤ n
few_keys None n = omega arith
few_keys (Some c) n = omega arith

few_values : (by : OrderBy) (n : ℕ) → value_readings by n ≤ n
few_values OrderBy.Relevance n = omega arith
few_values (OrderBy.Value k) n = omega arith
few_values (OrderBy.ValueThenRelevance k) n = omega arith
few_values (OrderBy.RelevanceThenValue k) n = omega arith

-- a document that is there has an id
small_there : (h : ℕ) (docs : Docs) → LieBelow (2 ^ 32) docs → (document : Document) → document_at h docs ≡ Some document → h < 2 ^ 32
small_there h [] low document e = absurd (cc)
small_there h (d ∷ docs) low document e = by_id (d.0 == h) refl (small_there h docs low.1 document)
  where
    same_id : (a b : ℕ) → (a == b) ≡ true → a ≡ b
    same_id a b e = grind (arith, nat_tests)

    other_id : (a b : ℕ) → (a == b) ≡ false → a ≢ b
    other_id a b e = grind (arith, nat_tests)

    by_id : (b : Bool) → (d.0 == h) ≡ b → (document_at h docs ≡ Some document → h < 2 ^ 32) → h < 2 ^ 32
    by_id true f rest = let same = same_id d.0 h f in let l = low.0 in omega (arith, same, l)
    by_id false f rest = rest (sym (found-other h d docs (other_id d.0 h f)) ∙ e)

module _ (query : Tree) (paging : Paging) (docs : Docs) (greatest : ℕ) (give : ℕ → Option ℕ) where
  -- ---- a page that saw nothing

  pub page_opened : RiseAbove 0 docs → AllByRecursion (λ (one : ℕ × Document). give one.0 ≡ scores query paging one) docs → (page : Page) → OpensPage paging page → PageOf page query paging docs greatest give 0
  page_opened rise same page opens =
      let walk : Walk query paging docs give 0 [] = started query paging docs give rise same in
      let pages : Pages paging docs walk.last [] page.heap page.collapser = page_later paging docs 0 walk.last [] page.heap page.collapser (omega arith) (page_start paging docs page.heap page.collapser opens.heap (opens.collapser (key_of paging.collapse docs))) in
      record {
        options = opens.options;
        order = opens.order;
        collapse = opens.collapse;
        saw = [];
        seen = opens.seen;
        walk = walk;
        pages = pages;
        read = omega (arith, opens.read);
        calm = λ plain.
            let is = plain_is paging plain in
            calm_less query paging docs (settled paging (found_by query paging docs) greatest) walk.last 0 (need_for paging.options 0 page.heap 0) (omega arith)
            (calm_need query paging docs is.0 is.1 rise give 0 [] walk greatest page.heap page.collapser pages (hits_sorted paging docs walk.last [] page.heap page.collapser pages) 0);
      }

  -- ---- a page of a search at a head

  module _ (need : ℕ) (page : Page) (of : PageOf page query paging docs greatest give need) (sorted : AreSorted docs) (h w : ℕ) (head : first_id (weighed give docs) ≡ Some h) (weight : w ≡ first_weight (weighed give docs)) where
    abbrev walk : Walk query paging docs give need of.saw
    walk = of.walk

    rest_is : weighed give docs ≡ weighed give walk.rest
    rest_is = ap (weighed give) walk.split ∙ weighed_behind give walk.before walk.rest walk.quiet

    weight_is : first_weight (weighed give walk.rest) ≡ w
    weight_is = sym (weight ∙ ap first_weight rest_is)

    pub at : AtHead give walk.last h w walk.rest
    at = subst (λ n. AtHead give walk.last h n walk.rest) weight_is (the_head query paging docs give need of.saw walk h head)

    -- the document there
    pub there : document_at h docs ≡ Some at.one.1
    there =
        ap (document_at h) (walk.split ∙ ap (λ ds. walk.before ++ ds) at.is ∙ sym (append_assoc walk.before at.skipped (at.one ∷ at.later)))
        ∙ found_at h (walk.before ++ at.skipped) at.later at.one
        (all_append (λ (d : ℕ × Document). d.0 < h) walk.before at.skipped (all_less walk.last h walk.before at.higher walk.low) at.low) at.id

    -- fewer were seen than there are
    seen_few : page.seen + 1 < 2 ^ 32
    seen_few =
        let saw_few = (shown_beside (is_behind_page paging.order (held_by paging docs of.saw)) (λ _. []) (λ _ _ _. refl) (found_by query paging walk.before) of.saw walk.shown).long in
        let found = found_few query paging walk.before in
        let all : length docs ≡ length (walk.before ++ walk.rest) = ap length walk.split in
        let both : length (walk.before ++ walk.rest) ≡ length walk.before + length walk.rest = length-append walk.before walk.rest in
        let rest : length walk.rest ≡ length (at.skipped ++ at.one ∷ at.later) = ap length at.is in
        let parts : length (at.skipped ++ at.one ∷ at.later) ≡ length at.skipped + length (at.one ∷ at.later) = length-append at.skipped (at.one ∷ at.later) in
        let small = length_fits docs sorted in
        omega (arith, saw_few, found, all, both, rest, parts, small, of.seen)

    read_few : page.read + 2 < 2 ^ 64
    read_few =
        let keys = few_keys paging.collapse (length of.saw) in
        let values = few_values paging.order.by (length of.saw) in
        omega (arith, of.read, keys, values, seen_few, of.seen)

    -- no document has an id behind the last
    pub at_last : h ≤ last_id
    at_last = below at.id (small_there h docs sorted.small at.one.1 there)
      where
        below : at.one.0 ≡ h → h < 2 ^ 32 → h ≤ last_id
        below e l = omega (arith, l)

    full_room : page.heap.room ≡ page.heap.most
    full_room = of.pages.room ∙ sym of.pages.most

    under_hits : All (λ (x : Hit). x.rank.id < h) page.heap.hits
    under_hits = All-from_recursion (λ (x : Hit). x.rank.id < h) page.heap.hits (hits_less walk.last h page.heap.hits at.higher of.pages.under)

    known_few : IfSome page.collapser (λ c. c.seen + 1 < 2 ^ 32)
    known_few = few_by paging.collapse (key_of paging.collapse docs) page.collapser of.pages.collapse
      where
        newest_long : length of.pages.newest ≡ length of.saw
        newest_long = sym (length-ordered (is_before paging.order) of.pages.newest) ∙ ap length (sym of.pages.same) ∙ length-ordered (is_before paging.order) of.saw

        few_by : (o : Option Collapse) (k : Rank → List ℕ) (c : Option Collapsed) → CollapsesBy o paging.order k of.pages.newest c → IfSome c (λ c. c.seen + 1 < 2 ^ 32)
        few_by None k None g = cc
        few_by None k (Some c) g = absurd g
        few_by (Some o) k None g = absurd g
        few_by (Some o) k (Some c) g = omega (arith, g.2.seen, newest_long, seen_few, of.seen)

    known_apart : IfSome page.collapser (λ c. (k : List ℕ) → 0 < length k → All (λ (r : Rank). r.id ≢ h) (group_of k c.groups).kept)
    known_apart = apart_by paging.collapse (key_of paging.collapse docs) page.collapser of.pages.collapse
      where
        apart_by : (o : Option Collapse) (f : Rank → List ℕ) (c : Option Collapsed) → CollapsesBy o paging.order f of.pages.newest c → IfSome c (λ c. (k : List ℕ) → 0 < length k → All (λ (r : Rank). r.id ≢ h) (group_of k c.groups).kept)
        apart_by None f None g = cc
        apart_by None f (Some c) g = absurd g
        apart_by (Some o) f None g = absurd g
        apart_by (Some o) f (Some c) g =
            knows_differ c f of.pages.newest g.2 (record { weight = 0; value = []; id = h })
            (fresh paging docs walk.last of.saw page.heap page.collapser of.pages (record { weight = 0; value = []; id = h }) at.higher)

    -- it may see the document there
    pub may_see : (ceiling : ℕ) → ((id : ℕ) → unwrap_or (give id) 0 ≤ ceiling) → ceiling < 2 ^ 127 → MaySee page h w
    may_see ceiling most fits = record { few = seen_few; read = read_few; light = light; room = full_room; under = under_hits; known = known_few; apart = known_apart }
      where
        light : w < 2 ^ 127
        light =
            let own : w ≡ unwrap_or (give at.one.0) 0 = sym (ap (λ o. unwrap_or o 0) at.gives) in
            omega (arith, own, most at.one.0, fits)

    -- ---- past the head

    -- what was seen, and what the page holds then
    pub record Looked (mid : Page) (saw2 : List Rank) : Type 0 where
      pub is : of.saw ++ taken query paging at.one (Some w) ≡ saw2
      pub options : mid.options ≡ paging.options
      pub order : mid.order ≡ paging.order
      pub collapse : mid.collapse ≡ paging.collapse
      pub pages : Pages paging docs h saw2 mid.heap mid.collapser
      pub keeps : IsFull paging docs of.saw → (r : Rank) → IsBehindPage paging docs of.saw r → IsBehindPage paging docs saw2 r
      pub full : IsFull paging docs of.saw → IsFull paging docs saw2
      pub long : length of.saw ≤ length saw2
      pub seen : mid.seen ≡ length saw2
      pub read : mid.read ≤ key_readings paging.collapse (length saw2) + value_readings paging.order.by (length saw2)

    pub passed_by : w < paging.options.cutoff → Looked page of.saw
    passed_by light = record {
      is = ap (λ b. of.saw ++ cond b (ranked query paging at.one w ∷ []) []) (lt-leb paging.options.cutoff w light) ∙ append-nil of.saw;
      options = of.options;
      order = of.order;
      collapse = of.collapse;
      pages = page_later paging docs walk.last h of.saw page.heap page.collapser (omega (arith, at.higher)) of.pages;
      keeps = λ full r p. p;
      full = λ full. full;
      long = omega arith;
      seen = of.seen;
      read = of.read;
    }

    value_there : (by : OrderBy) → value_in_order by (document_at h docs) ≡ value_by by at.one.1
    value_there by = ap (value_in_order by) there

    pub looked_at : (mid : Page) → paging.options.cutoff ≤ w → Sees docs h w page mid → (saw2 : List Rank) × Looked mid saw2
    looked_at mid heavy_enough sees =
        let hit : Hit = sees.hit in
        let rank_is : hit.rank ≡ ranked query paging at.one w = sees.rank ∙ (λ j. record { weight = w; value = (ap (λ (o : Order). value_in_order o.by (document_at h docs)) of.order ∙ value_there paging.order.by) j; id = sym at.id j }) in
        let id_is : hit.rank.id ≡ h = ap (λ (r : Rank). r.id) sees.rank in
        let own_key : hit.key ≡ key_of paging.collapse docs hit.rank = sees.key ∙ (λ j. key_for (of.collapse j) (document_at (sym id_is j) docs)) in
        let more = page_offered paging docs walk.last of.saw page.heap mid.heap page.collapser mid.collapser hit of.pages (omega (arith, at.higher, id_is)) own_key sees.offers in
        let one_more : length (of.saw ++ hit.rank ∷ []) ≡ length of.saw + length (hit.rank ∷ []) = length-append of.saw (hit.rank ∷ []) in
        let len : length (of.saw ++ hit.rank ∷ []) ≡ length of.saw + 1 = omega (arith, one_more) in (
          of.saw ++ hit.rank ∷ [],
          record {
            is = ap (λ b. of.saw ++ cond b (ranked query paging at.one w ∷ []) []) (le-leb paging.options.cutoff w heavy_enough) ∙ ap (λ r. of.saw ++ r ∷ []) (sym rank_is);
            options = sees.options ∙ of.options;
            order = sees.order ∙ of.order;
            collapse = sees.collapse ∙ of.collapse;
            pages = subst (λ n. Pages paging docs n (of.saw ++ hit.rank ∷ []) mid.heap mid.collapser) id_is more.pages2;
            keeps = more.keeps;
            full = more.full;
            long = omega (arith, len);
            seen = omega (arith, sees.seen, of.seen, len);
            read =
                let keys : key_readings page.collapse 1 ≡ key_readings paging.collapse 1 = ap (λ c. key_readings c 1) of.collapse in
                let values : value_readings page.order.by 1 ≡ value_readings paging.order.by 1 = ap (λ (o : Order). value_readings o.by 1) of.order in
                let more_k : key_readings paging.collapse (length (of.saw ++ hit.rank ∷ [])) ≡ key_readings paging.collapse (length of.saw) + key_readings paging.collapse 1 = ap (key_readings paging.collapse) len ∙ more_keys paging.collapse (length of.saw) in
                let more_v : value_readings paging.order.by (length (of.saw ++ hit.rank ∷ [])) ≡ value_readings paging.order.by (length of.saw) + value_readings paging.order.by 1 = ap (value_readings paging.order.by) len ∙ more_values paging.order.by (length of.saw) in
                omega (arith, sees.read, of.read, keys, values, more_k, more_v);
          },
        )

    -- what the tree was asked for then, and what it gives
    module _ (mid : Page) (saw2 : List Rank) (looked : Looked mid saw2) (ceiling need2 : ℕ) (give2 : ℕ → Option ℕ)
        (asked : (need2 ≡ need) ⊎ (need2 ≡ max need (need_for mid.options mid.seen mid.heap ceiling)))
        (over : AllByRecursion (λ (one : ℕ × Document). CoversAt (cond (nat_le (h + 1) one.0) (give one.0) None) (give2 one.0) need2) docs) where
      abbrev own_ask : ℕ
      own_ask = need_for paging.options mid.seen mid.heap ceiling

      pub asked2 : (need2 ≡ need) ⊎ (need2 ≡ max need own_ask)
      asked2 = by_options asked
        where
          by_options : (need2 ≡ need) ⊎ (need2 ≡ max need (need_for mid.options mid.seen mid.heap ceiling)) → (need2 ≡ need) ⊎ (need2 ≡ max need own_ask)
          by_options (inl e) = inl e
          by_options (inr e) = inr (e ∙ (λ j. max need (need_for (looked.options j) mid.seen mid.heap ceiling)))

      pub rises_by : (need2 ≡ need) ⊎ (need2 ≡ max need own_ask) → need ≤ need2
      rises_by (inl e) = omega (arith, e)
      rises_by (inr e) = omega (arith, e)

      right_by : IsNeed paging docs saw2 h need → IsNeed paging docs saw2 h own_ask → (need2 ≡ need) ⊎ (need2 ≡ max need own_ask) → IsNeed paging docs saw2 h need2
      right_by a b (inl e) = subst (IsNeed paging docs saw2 h) (sym e) a
      right_by a b (inr e) = subst (IsNeed paging docs saw2 h) (sym e) (need_max paging docs saw2 h need own_ask a b)

      few_by : (need2 ≡ need) ⊎ (need2 ≡ max need own_ask) → length saw2 < wanted paging → need2 ≤ paging.options.cutoff
      few_by (inl e) few = let low = walk.few (omega (arith, few, looked.long)) in omega (arith, e, low)
      few_by (inr e) few =
          let low = walk.few (omega (arith, few, looked.long)) in
          let cut = need_few paging mid.seen ceiling mid.heap (omega (arith, few, looked.seen)) in
          omega (arith, e, low, cut)

      pub walked_on : (walk2 : Walk query paging docs give2 need2 saw2) × (walk2.last ≡ h)
      walked_on =
          walked query paging docs give need of.saw walk h w at give2 need2 over saw2 looked.is (rises_by asked2) looked.keeps (few_by asked2)
          (right_by
          (need_on paging docs of.saw saw2 walk.last h need (omega (arith, at.higher)) looked.full looked.keeps walk.right)
          (need_right paging docs h saw2 mid.heap mid.collapser looked.pages (hits_sorted paging docs h saw2 mid.heap mid.collapser looked.pages) mid.seen ceiling)
          asked2)

      pages_on : Pages paging docs walked_on.0.last saw2 mid.heap mid.collapser
      pages_on = subst (λ n. Pages paging docs n saw2 mid.heap mid.collapser) (sym walked_on.1) looked.pages

      abbrev stop : ℕ
      stop = settled paging (found_by query paging docs) greatest

      ask_is : need_for paging.options (length saw2) mid.heap ceiling ≡ own_ask
      ask_is = ap (λ n. need_for paging.options n mid.heap ceiling) (sym looked.seen)

      calm_on : is_plain paging ≡ true → IsCalm query paging docs stop h need2
      calm_on plain = by_asked asked2
        where
          is : (paging.order.by ≡ OrderBy.Relevance) × (paging.collapse ≡ None)
          is = plain_is paging plain

          before : IsCalm query paging docs stop h need
          before = calm_later query paging docs stop walk.last h need (omega (arith, at.higher)) (of.calm plain)

          own : IsCalm query paging docs stop h own_ask
          own =
              subst (λ n. IsCalm query paging docs stop n own_ask) walked_on.1
              (subst (IsCalm query paging docs stop walked_on.0.last) ask_is
              (calm_need query paging docs is.0 is.1 sorted.rise give2 need2 saw2 walked_on.0 greatest mid.heap mid.collapser pages_on
              (hits_sorted paging docs walked_on.0.last saw2 mid.heap mid.collapser pages_on) ceiling))

          by_asked : (need2 ≡ need) ⊎ (need2 ≡ max need own_ask) → IsCalm query paging docs stop h need2
          by_asked (inl e) = subst (IsCalm query paging docs stop h) (sym e) before
          by_asked (inr e) = subst (IsCalm query paging docs stop h) (sym e) (calm_max query paging docs stop h need own_ask before own)

      -- it is the page of the search that goes on
      pub gone_on : PageOf mid query paging docs greatest give2 need2
      gone_on = record {
        options = looked.options;
        order = looked.order;
        collapse = looked.collapse;
        saw = saw2;
        seen = looked.seen;
        walk = walked_on.0;
        pages = pages_on;
        read = looked.read;
        calm = λ plain. subst (λ n. IsCalm query paging docs stop n need2) (sym walked_on.1) (calm_on plain);
      }

      -- before the stop point the document there is wanted
      pub wanted_before : is_plain paging ≡ true → h < stop → stop < last_id → (v : ℕ) × (give stop ≡ Some v) × (need2 ≤ v)
      wanted_before plain before within =
          let is = plain_is paging plain in
          let t = given_there query paging docs is.0 is.1 sorted.rise give need of.saw walk stop (of.calm plain) (omega (arith, at.higher, before)) within in
          let low : need2 ≤ t.0 = subst (λ o. IsSomeAnd o (λ v. need2 ≤ v)) t.2 (calm_on plain before within) in
          (t.0, t.1, low)

      -- from a point on at which this weight cannot matter it is not enough, where what the page needs was asked for
      pub asked_behind : ((need2 ≡ need) × (h ≡ last_id)) ⊎ (need2 ≡ max need (need_for mid.options mid.seen mid.heap ceiling)) → is_plain paging ≡ true → (least : ℕ) → settled paging (found_by query paging docs) least ≤ h → h < last_id
          → (least < need2) ⊎ (ceiling < need2)
      asked_behind strictly plain least after within =
          let is = plain_is paging plain in
          let behind = walked_on.1 in
          above strictly
          (asks_more query paging docs is.0 is.1 sorted.rise give2 need2 saw2 walked_on.0 least mid.heap mid.collapser pages_on
          (hits_sorted paging docs walked_on.0.last saw2 mid.heap mid.collapser pages_on) ceiling (omega (arith, after, behind)) (omega (arith, within, behind)))
        where
          own : need2 ≡ max need (need_for mid.options mid.seen mid.heap ceiling) → need2 ≡ max need own_ask
          own e = e ∙ (λ j. max need (need_for (looked.options j) mid.seen mid.heap ceiling))

          above : ((need2 ≡ need) × (h ≡ last_id)) ⊎ (need2 ≡ max need (need_for mid.options mid.seen mid.heap ceiling)) → (least < need_for paging.options (length saw2) mid.heap ceiling) ⊎ (ceiling < need_for paging.options (length saw2) mid.heap ceiling)
              → (least < need2) ⊎ (ceiling < need2)
          above (inl e) high = let last = e.1 in absurd (omega (arith, last, within))
          above (inr e) (inl high) = let same = own e in inl (omega (arith, same, high, ask_is))
          above (inr e) (inr high) = let same = own e in inr (omega (arith, same, high, ask_is))

    -- a search that goes on is at no document behind the stop point
    pub head_early : (ceiling : ℕ) → ceiling ≤ greatest → is_settled page.options page.seen page.heap ceiling ≡ false → is_plain paging ≡ true → h ≤ settled paging (found_by query paging docs) greatest
    head_early ceiling low goes plain = by_place (nat_lt walk.last point) refl (nat_lt point last_id) refl
      where
        point : ℕ
        point = settled paging (found_by query paging docs) greatest

        is : (paging.order.by ≡ OrderBy.Relevance) × (paging.collapse ≡ None)
        is = plain_is paging plain

        asks : walk.last < last_id → point ≤ walk.last → is_settled paging.options page.seen page.heap ceiling ≡ true
        asks within after =
            done_after query paging page.heap page.seen greatest ceiling low
            (subst (λ n. (greatest < need_for paging.options n page.heap ceiling) ⊎ (ceiling < need_for paging.options n page.heap ceiling)) (sym of.seen)
            (asks_more query paging docs is.0 is.1 sorted.rise give need of.saw walk greatest page.heap page.collapser of.pages (hits_sorted paging docs walk.last of.saw page.heap page.collapser of.pages) ceiling after within))

        first_given : (o : Option Document) → document_at point docs ≡ o → IsCalm query paging docs point walk.last need → walk.last < point → point < last_id → h ≤ point
        first_given None e calm before within = absurd (subst (λ (o : Option Document). IsSomeAnd (option_and_then (λ d. score query paging.options.scheme 1 d) o) (λ v. need ≤ v)) e (calm before within))
        first_given (Some document) e calm before within =
            let t = given_there query paging docs is.0 is.1 sorted.rise give need of.saw walk point calm before within in
            first_lowest give 0 point h t.0 document docs sorted.rise e t.1 head

        by_place : (a : Bool) → nat_lt walk.last point ≡ a → (b : Bool) → nat_lt point last_id ≡ b → h ≤ point
        by_place a e false f =
            let far = ltb-false point last_id f in
            let low = at_last in
            omega (arith, far, low)
        by_place true e true f = first_given (document_at point docs) refl (of.calm plain) (ltb-true walk.last point e) (ltb-true point last_id f)
        by_place false e true f =
            let after = ltb-false walk.last point e in
            let end = at_last in
            let higher = at.higher in
            absurd (true≢false (sym (asks (omega (arith, end, higher)) after) ∙ ap (λ o. is_settled o page.seen page.heap ceiling) (sym of.options) ∙ goes))
