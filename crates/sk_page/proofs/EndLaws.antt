-- The page of a search at its end, and its report.
use Rattle.std.proofs.Common.{◌≡◌, ◌≤◌, ◌<◌, ◌^◌, ◌-◌, ◌⊎◌, ℕ, zero, suc, Bool, true, false, cond, ◌&&◌, ◌||◌, ◌==◌, nat_le, nat_lt, min, List, [], ◌∷◌, length, take, drop, map, Option, None, Some, is_none, unwrap_or, refl, sym, ap, ◌∙◌, subst, arith, inl, inr, true≢false}
use Rattle.std.specs.List.{AllByRecursion, AllZip}
use Rattle.std.proofs.lemmas.List.{length-take}
use Rattle.std.proofs.lemmas.Bool.{and_parts, leb-false, leb-true, ltb-false, ltb-true}
use Rattle.sk_collapse.proofs.GroupLemmas.{ranks_drop}
use Rattle.sk_base.specs.declared.find.Collapse.{Collapse}
use Rattle.sk_base.specs.declared.find.Paging.{Paging}
use Rattle.sk_base.specs.declared.find.Options.{Options}
use Rattle.sk_base.specs.declared.rank.Rank.{Rank}
use Rattle.sk_base.specs.declared.rank.Order.{Order}
use Rattle.sk_base.specs.declared.report.Ranked.{Ranked}
use Rattle.sk_base.specs.declared.report.Report.{Report}
use Rattle.sk_base.specs.Before.{is_before}
use Rattle.sk_base.specs.Numbers.{Docs}
use Rattle.sk_sorted.specs.Entries.{first_id}
use Rattle.sk_query.specs.Trees.{Tree}
use Rattle.sk_model.specs.Counts.{wanted, kept_by, dropped_by}
use Rattle.sk_model.specs.Matches.{found_by, key_of}
use Rattle.sk_model.specs.Page as Page
use Rattle.sk_model.specs.Page.{best_first, kept, count_key, dropped}
use Rattle.sk_model.specs.Joined.{joined_most}
use Rattle.sk_model.specs.Sharp.{sharp}
use Rattle.sk_report.specs.Reports.{ReportsWithin}
use Rattle.sk_model.proofs.KeptLaws.{kept_few}
use Rattle.sk_model.proofs.PlacedLaws.{length-ordered}
use Rattle.sk_heap.specs.declared.hit.Hit.{Hit}
use Rattle.sk_heap.specs.Held.{ranks_of}
use Rattle.sk_collapse.specs.Collapsed.{Collapsed, kept_in}
use Rattle.sk_collapse.proofs.CollapseLaws.{knows_dropped}
use Rattle.sk_page.specs.Walks.{held_by, IsFull, IsBehindPage, HasEnded}
use Rattle.sk_page.specs.Pages.{CollapsesBy, Pages}
use Rattle.sk_page.specs.Needs.{is_settled, is_whole}
use Rattle.sk_page.specs.Hits.{dropped_of, ranked_of, kept_count}
use Rattle.sk_page.specs.Tells.{TellsHit, IsUpper, IsSpent, IsSpentOver, TellsReport}
use Rattle.sk_page.specs.Views.{PageOf, kept_by_page, upper_count, MayReport, Reports}
use Rattle.sk_page.specs.declared.page.Page as Views
use Rattle.sk_page.proofs.WalkLaws.{weighed, ended_at_end, all_at_end, ended_below, all_below, ended_settled}
use Rattle.sk_page.proofs.PageLaws.{held_is, hits_sorted}
use Rattle.sk_page.proofs.NeedLaws.{settled_is}
use Rattle.sk_page.proofs.TellsLaws.{in_order, dropped_alike, beside, counts_told, told, steps_sharp, steps_joined}

no_first : (ps : List (ℕ × ℕ)) → is_none (first_id ps) ≡ true → ps ≡ []
no_first [] e = refl
no_first (p ∷ ps) e = absurd (true≢false (sym e))

all_drop : {X : Type 0} (P : X → Type 0) (n : ℕ) (xs : List X) → AllByRecursion P xs → AllByRecursion P (drop n xs)
all_drop P zero xs h = h
all_drop P (suc n) [] h = tt
all_drop P (suc n) (x ∷ xs) h = all_drop P n xs h.1

-- what is kept, and what is dropped of a key
module _ (order : Order) (saw newest : List Rank) (same : best_first order saw ≡ best_first order newest) where
  key_same : (key : Rank → List ℕ) (k : List ℕ) → count_key key k saw ≡ count_key key k newest
  key_same key k = sym (in_order key k order saw) ∙ ap (count_key key k) same ∙ in_order key k order newest

  kept_told : (o : Option Collapse) (key : Rank → List ℕ) (c : Option Collapsed) (seen : ℕ) → CollapsesBy o order key newest c → seen ≡ length saw → kept_count c seen ≡ length (kept order o key saw)
  kept_told None key None seen h e = e ∙ sym (length-ordered (is_before order) saw)
  kept_told None key (Some c) seen h e = absurd h
  kept_told (Some o) key None seen h e = absurd h
  kept_told (Some o) key (Some c) seen h e =
      h.2.kept ∙ (λ j. length (kept_in (h.0 j) (h.1 j) key newest)) ∙ ap (λ rs. length (Page.kept_behind o.max key [] rs)) (sym same)

  dropped_told : (o : Option Collapse) (key : Rank → List ℕ) (c : Option Collapsed) → CollapsesBy o order key newest c → (k : List ℕ) → dropped_of c k ≡ dropped order o key k saw
  dropped_told None key None h k = sym (none_of (length k == 0) (count_key key k saw) (count_key key k (best_first order saw)) (sym (in_order key k order saw)))
    where
      none_of : (b : Bool) (m n : ℕ) → m ≡ n → cond b 0 (m - n) ≡ 0
      none_of true m n e = refl
      none_of false m n e = omega (arith, e)
  dropped_told None key (Some c) h k = absurd h
  dropped_told (Some o) key None h k = absurd h
  dropped_told (Some o) key (Some c) h k =
      sym (knows_dropped c key newest h.2 o (sym h.1) k)
      ∙ (λ j. dropped (h.0 j) (Some o) key k newest)
      ∙ sym (dropped_alike order (Some o) key k saw newest (key_same key k))

module _ (query : Tree) (paging : Paging) (docs : Docs) (greatest : ℕ) (give : ℕ → Option ℕ) (need : ℕ) (page : Views.Page) (of : PageOf page query paging docs greatest give need) where
  abbrev saw : List Rank
  saw = of.saw

  abbrev key : Rank → List ℕ
  key = key_of paging.collapse docs

  abbrev pages : Pages paging docs of.walk.last saw page.heap page.collapser
  pages = of.pages

  kept_is : kept_by_page page ≡ length (kept_by paging docs saw)
  kept_is = kept_told paging.order saw pages.newest pages.same paging.collapse key page.collapser page.seen pages.collapse of.seen

  dropped_is : (k : List ℕ) → dropped_of page.collapser k ≡ dropped_by paging docs k saw
  dropped_is = dropped_told paging.order saw pages.newest pages.same paging.collapse key page.collapser pages.collapse

  kept_seen : kept_by_page page ≤ page.seen
  kept_seen = let few = kept_few paging.order paging.collapse key saw in omega (arith, kept_is, few, of.seen)

  cut_same : page.options.cutoff ≡ paging.options.cutoff
  cut_same = ap (λ (o : Options). o.cutoff) of.options

  -- the hits
  hit_told : (hit : Hit) → hit.key ≡ key hit.rank → TellsHit paging docs saw hit.rank (ranked_of docs page.collapser hit)
  hit_told hit own = record { id = refl; weight = refl; payload = refl; collapsed = dropped_is hit.key ∙ ap (λ k. dropped_by paging docs k saw) own }

  hits_told : (hits : List Hit) → AllByRecursion (λ (h : Hit). h.key ≡ key h.rank) hits → AllZip (TellsHit paging docs saw) (ranks_of hits) (map (ranked_of docs page.collapser) hits)
  hits_told [] h = tt
  hits_told (x ∷ hits) h = (hit_told x h.0, hits_told hits h.1)

  page_told : (hits : List Ranked) → hits ≡ map (ranked_of docs page.collapser) (drop page.options.first page.heap.hits) → AllZip (TellsHit paging docs saw) (drop paging.options.first (held_by paging docs saw)) hits
  page_told hits is =
      let first : page.options.first ≡ paging.options.first = ap (λ (o : Options). o.first) of.options in
      let front : hits ≡ map (ranked_of docs page.collapser) (drop paging.options.first page.heap.hits) = is ∙ ap (λ n. map (ranked_of docs page.collapser) (drop n page.heap.hits)) first in
      subst (λ rs. AllZip (TellsHit paging docs saw) rs hits) (ranks_drop paging.options.first page.heap.hits ∙ ap (drop paging.options.first) (held_is paging docs of.walk.last saw page.heap page.collapser pages))
      (subst (AllZip (TellsHit paging docs saw) (ranks_of (drop paging.options.first page.heap.hits))) (sym front)
      (hits_told (drop paging.options.first page.heap.hits) (all_drop (λ (h : Hit). h.key ≡ key h.rank) paging.options.first page.heap.hits pages.keys)))

  -- ---- what it is sure of

  abbrev ended : Bool
  ended = is_none (first_id (weighed give docs))

  module _ (ceiling : ℕ) (most : (id : ℕ) → unwrap_or (give id) 0 ≤ ceiling) (done : (ended || is_settled page.options page.seen page.heap ceiling) ≡ true) where
    abbrev Settled : Type 0
    Settled =
        (ceiling < paging.options.cutoff)
        ⊎ ((paging.options.cutoff ≤ ceiling) × (wanted paging ≤ page.seen) × IsFull paging docs saw × ((r : Rank) → r.weight ≤ ceiling → of.walk.last < r.id → IsBehindPage paging docs saw r))

    how : (weighed give docs ≡ []) ⊎ Settled
    how = step ended refl done
      where
        step : (b : Bool) → ended ≡ b → (b || is_settled page.options page.seen page.heap ceiling) ≡ true → (weighed give docs ≡ []) ⊎ Settled
        step true e f = inl (no_first (weighed give docs) e)
        step false e f =
            inr (settled_is paging docs of.walk.last saw page.heap page.collapser pages (hits_sorted paging docs of.walk.last saw page.heap page.collapser pages) page.seen ceiling
            (subst (λ o. is_settled o page.seen page.heap ceiling ≡ true) of.options f))

    end_by : (weighed give docs ≡ []) ⊎ Settled → HasEnded query paging docs saw
    end_by (inl none) = ended_at_end query paging docs give need saw of.walk none
    end_by (inr (inl low)) = ended_below query paging docs give need saw of.walk ceiling most low
    end_by (inr (inr full)) = ended_settled query paging docs give need saw of.walk ceiling most (let many = full.1 in omega (arith, many, of.seen)) full.2 full.3

    end : HasEnded query paging docs saw
    end = end_by how

    -- as many were seen as are wanted, or all
    pub seen_enough : min (wanted paging) (length (found_by query paging docs)) ≤ page.seen
    seen_enough =
        let same : length (take (wanted paging) (found_by query paging docs)) ≡ length (take (wanted paging) saw) = ap length end.first in
        omega (arith, same, length-take (wanted paging) (found_by query paging docs), length-take (wanted paging) saw, of.seen)

    whole_by : (weighed give docs ≡ []) ⊎ (ceiling < paging.options.cutoff) → need ≤ paging.options.cutoff → found_by query paging docs ≡ saw
    whole_by (inl none) low = all_at_end query paging docs give need saw of.walk none low
    whole_by (inr below) low = all_below query paging docs give need saw of.walk ceiling most below low

    whole_is : is_whole page.options need ended ceiling ≡ true → found_by query paging docs ≡ saw
    whole_is e =
        let b = and_parts (nat_le need page.options.cutoff) (ended || nat_lt ceiling page.options.cutoff) e in
        let low = leb-true need page.options.cutoff b.0 in
        whole_by (which ended refl b.1) (omega (arith, low, cut_same))
      where
        which : (b : Bool) → ended ≡ b → (b || nat_lt ceiling page.options.cutoff) ≡ true → (weighed give docs ≡ []) ⊎ (ceiling < paging.options.cutoff)
        which true f g = inl (no_first (weighed give docs) f)
        which false f g = let l = ltb-true ceiling page.options.cutoff g in inr (omega (arith, l, cut_same))

    -- ---- its numbers

    module _ (within : ceiling ≤ greatest) (low : greatest < paging.options.cutoff → need ≤ paging.options.cutoff) (static : ℕ) (found : length (found_by query paging docs) ≤ static) where
      high_need : paging.options.cutoff < need → (wanted paging ≤ length saw) × (paging.options.cutoff ≤ greatest)
      high_need high = (many (nat_le (wanted paging) (length saw)) refl, enough (nat_le paging.options.cutoff greatest) refl)
        where
          many : (b : Bool) → nat_le (wanted paging) (length saw) ≡ b → wanted paging ≤ length saw
          many true e = leb-true (wanted paging) (length saw) e
          many false e = let less = of.walk.few (leb-false (wanted paging) (length saw) e) in absurd (omega (arith, less, high))

          enough : (b : Bool) → nat_le paging.options.cutoff greatest ≡ b → paging.options.cutoff ≤ greatest
          enough true e = leb-true paging.options.cutoff greatest e
          enough false e = let less = low (leb-false paging.options.cutoff greatest e) in absurd (omega (arith, less, high))

      partly : is_whole page.options need ended ceiling ≡ false → (wanted paging ≤ length saw) × (paging.options.cutoff ≤ greatest)
      partly e = step (nat_le need page.options.cutoff) ended (nat_lt ceiling page.options.cutoff) refl refl refl e
        where
          settled_end : ended ≡ false → page.options.cutoff ≤ ceiling → (weighed give docs ≡ []) ⊎ Settled → (wanted paging ≤ length saw) × (paging.options.cutoff ≤ greatest)
          settled_end f g (inl none) = absurd (true≢false (sym (ap (λ ps. is_none (first_id ps)) none) ∙ f))
          settled_end f g (inr (inl less)) = absurd (omega (arith, less, g, cut_same))
          settled_end f g (inr (inr full)) =
              let many = full.1 in
              let high = full.0 in
              (omega (arith, many, of.seen), omega (arith, high, within))

          step : (a b c : Bool) → nat_le need page.options.cutoff ≡ a → ended ≡ b → nat_lt ceiling page.options.cutoff ≡ c → (a && (b || c)) ≡ false → (wanted paging ≤ length saw) × (paging.options.cutoff ≤ greatest)
          step false b c f g h so = let high = leb-false need page.options.cutoff f in high_need (omega (arith, high, cut_same))
          step true true c f g h so = absurd (true≢false so)
          step true false true f g h so = absurd (true≢false so)
          step true false false f g h so = settled_end g (ltb-false ceiling page.options.cutoff h) how

      upper_told : (whole : Bool) → is_whole page.options need ended ceiling ≡ whole → IsUpper query paging docs greatest static saw (upper_count page static whole)
      upper_told true e = inl (whole_is e, kept_is)
      upper_told false e =
          let p = partly e in
          inr (p.0, p.1, λ j. static - (of.seen j - kept_is j))

      lower_upper : (upper : ℕ) → IsUpper query paging docs greatest static saw upper → kept_by_page page ≤ upper
      lower_upper upper u =
          let counts = counts_told query paging docs saw end greatest static (kept_by_page page) upper found kept_is u in
          let least = counts.at_least in
          let high = counts.at_most in
          omega (arith, least, high)

      -- it may be reported
      pub may_report : static < 2 ^ 32 → (whole : Bool) → is_whole page.options need ended ceiling ≡ whole → MayReport page static whole
      may_report small whole e = record {
        kept = kept_seen;
        dropped =
            let long = (beside query paging docs saw end).long in
            omega (arith, long, found, of.seen);
        small = small;
        rising = lower_upper (upper_count page static whole) (upper_told whole e);
      }

      -- what it tells
      tells : (whole : Bool) → is_whole page.options need ended ceiling ≡ whole → (spent : ℕ) → (report : Report) → Reports docs page (record { greatest = greatest; most = static }) whole spent report
          → (t : TellsReport query paging docs greatest static saw report) × (t.spent ≡ spent)
      tells whole e spent report r =
          let upper : IsUpper query paging docs greatest static saw report.upper = subst (IsUpper query paging docs greatest static saw) (sym r.upper) (upper_told whole e) in
          let order = lower_upper report.upper upper in (
            record {
              hits = page_told report.hits r.hits;
              lower = r.lower ∙ kept_is;
              upper = upper;
              estimate = omega (arith, r.estimate, order, r.lower);
              greatest = r.greatest;
              least_steps = omega (arith, r.steps);
              spent = spent;
              most_steps = omega (arith, r.steps, of.read);
            },
            refl,
          )

      -- and the report is one that the find may have, over one index
      pub reported : (whole : Bool) → is_whole page.options need ended ceiling ≡ whole → (spent : ℕ) → IsSpent query paging docs spent → (report : Report)
          → Reports docs page (record { greatest = greatest; most = static }) whole spent report → ReportsWithin query paging docs greatest static (sharp query paging docs) report
      reported whole e spent lists report r =
          let t = tells whole e spent report r in
          told query paging docs saw end greatest static (sharp query paging docs) report found t.0
          (steps_sharp query paging docs saw end greatest static report t.0 (subst (IsSpent query paging docs) (sym t.1) lists))

      -- and over several parts
      pub reported_over : (n : ℕ) (whole : Bool) → is_whole page.options need ended ceiling ≡ whole → (spent : ℕ) → IsSpentOver n query paging docs spent → (report : Report)
          → Reports docs page (record { greatest = greatest; most = static }) whole spent report → ReportsWithin query paging docs greatest static (joined_most n query paging docs) report
      reported_over n whole e spent lists report r =
          let t = tells whole e spent report r in
          told query paging docs saw end greatest static (joined_most n query paging docs) report found t.0
          (steps_joined query paging docs saw end n greatest static report t.0 (subst (IsSpentOver n query paging docs) (sym t.1) lists))
