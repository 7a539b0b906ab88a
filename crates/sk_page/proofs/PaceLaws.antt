-- How far a search has come for which nothing was passed over.
use Rattle.std.proofs.Common.{◌≡◌, ◌≤◌, ◌+◌, ◌⊎◌, ℕ, Bool, true, false, cond, nat_le, nat_lt, max, List, [], ◌∷◌, ◌++◌, length, take, Option, None, Some, sym, ap, ◌∙◌, arith}
use Rattle.std.specs.List.{AllByRecursion}
use Rattle.std.proofs.lemmas.Bool.{le-leb}
use Rattle.std.proofs.lemmas.List.{take_all, take-append-le}
use Rattle.sk_base.specs.declared.find.Paging.{Paging}
use Rattle.sk_base.specs.declared.find.Options.{Options}
use Rattle.sk_base.specs.declared.rank.Rank.{Rank}
use Rattle.sk_base.specs.Numbers.{Docs}
use Rattle.sk_sorted.specs.Entries.{AreSorted, first_id}
use Rattle.sk_query.specs.Trees.{Tree}
use Rattle.sk_model.specs.Covers.{CoversAt}
use Rattle.sk_model.specs.Counts.{wanted_by}
use Rattle.sk_model.specs.Documents.{Document}
use Rattle.sk_model.specs.Matches.{found_by}
use Rattle.sk_heap.specs.Held.{Held, need_of}
use Rattle.sk_page.specs.Needs.{need_at, need_for}
use Rattle.sk_report.specs.Paces.{greatest_id, reached_by}
use Rattle.sk_page.specs.Views.{PageOf}
use Rattle.sk_page.specs.Walks.{Walk}
use Rattle.sk_page.specs.declared.page.Page.{Page}
use Rattle.sk_page.proofs.SeeLaws as See
use Rattle.sk_page.proofs.WalkLaws.{weighed, first_weight, found_append, taken, ranked}

-- a page that needs nothing has no cutoff
pub no_cutoff : (options : Options) (seen ceiling : ℕ) (held : Held) → need_for options seen held ceiling ≡ 0 → options.cutoff ≡ 0
no_cutoff options seen ceiling held e = by_seen (nat_lt seen (wanted_by options)) e
  where
    by_need : (o : Option ℕ) → need_at o options.cutoff ceiling ≡ 0 → options.cutoff ≡ 0
    by_need None f = absurd (omega (arith, f))
    by_need (Some n) f = omega (arith, f)

    by_seen : (b : Bool) → cond b options.cutoff (need_at (need_of held) options.cutoff ceiling) ≡ 0 → options.cutoff ≡ 0
    by_seen true f = f
    by_seen false f = by_need (need_of held) f

greatest_append : (xs ys : List Rank) → greatest_id (xs ++ ys) ≡ max (greatest_id xs) (greatest_id ys)
greatest_append [] ys = omega arith
greatest_append (x ∷ xs) ys = omega (arith, greatest_append xs ys)

module _ (query : Tree) (paging : Paging) (docs : Docs) where
  -- what was seen is the front of the matches
  front : (give : ℕ → Option ℕ) (need seen : ℕ) (saw : List Rank) (walk : Walk query paging docs give need saw) → seen ≡ length saw → need ≤ paging.options.cutoff → take seen (found_by query paging docs) ≡ saw
  front give need seen saw walk is low =
      ap (take seen) (ap (found_by query paging) walk.split ∙ found_append query paging walk.before walk.rest ∙ ap (λ rs. rs ++ found_by query paging walk.rest) (walk.exact low))
      ∙ take-append-le seen saw (found_by query paging walk.rest) (omega (arith, is))
      ∙ take_all seen saw (omega (arith, is))

  module _ (greatest : ℕ) (give : ℕ → Option ℕ) (need : ℕ) (page : Page) (of : PageOf page query paging docs greatest give need) where
    module _ (sorted : AreSorted docs) (h w : ℕ) (head : first_id (weighed give docs) ≡ Some h) (weight : w ≡ first_weight (weighed give docs))
        (mid : Page) (saw2 : List Rank) (looked : See.Looked query paging docs greatest give need page of sorted h w head weight mid saw2) (ceiling need2 : ℕ) (give2 : ℕ → Option ℕ)
        (asked : (need2 ≡ need) ⊎ (need2 ≡ max need (need_for mid.options mid.seen mid.heap ceiling)))
        (over : AllByRecursion (λ (one : ℕ × Document). CoversAt (cond (nat_le (h + 1) one.0) (give one.0) None) (give2 one.0) need2) docs) where
      -- a search that passed over nothing has come as far as the one before, and to the head where that weighs the cutoff
      pub reached_on : need2 ≤ paging.options.cutoff → (point : ℕ) → reached_by mid.seen (found_by query paging docs) ≤ point → (reached_by page.seen (found_by query paging docs) ≤ point) × (paging.options.cutoff ≤ w → h ≤ point)
      reached_on low point far =
          let at = See.at query paging docs greatest give need page of sorted h w head weight in
          let id_is : at.one.0 ≡ h = at.id in
          let rises = See.rises_by query paging docs greatest give need page of sorted h w head weight mid saw2 looked ceiling need2 give2 asked over (See.asked2 query paging docs greatest give need page of sorted h w head weight mid saw2 looked ceiling need2 give2 asked over) in
          let walk2 = (See.walked_on query paging docs greatest give need page of sorted h w head weight mid saw2 looked ceiling need2 give2 asked over).0 in
          let all : greatest_id saw2 ≡ reached_by mid.seen (found_by query paging docs) = ap greatest_id (sym (front give2 need2 mid.seen saw2 walk2 looked.seen low)) in
          let before : reached_by page.seen (found_by query paging docs) ≡ greatest_id of.saw = ap greatest_id (front give need page.seen of.saw of.walk of.seen (omega (arith, low, rises))) in
          let both : greatest_id saw2 ≡ max (greatest_id of.saw) (greatest_id (taken query paging at.one (Some w))) = ap greatest_id (sym looked.is) ∙ greatest_append of.saw (taken query paging at.one (Some w)) in (
            omega (arith, far, all, before, both),
            λ heavy.
                let one : greatest_id (taken query paging at.one (Some w)) ≡ greatest_id (ranked query paging at.one w ∷ []) = ap (λ b. greatest_id (cond b (ranked query paging at.one w ∷ []) [])) (le-leb paging.options.cutoff w heavy) in
                omega (arith, far, all, both, one, id_is),
          )
