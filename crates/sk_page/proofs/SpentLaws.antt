-- What a search has read so far.
use Rattle.std.proofs.Common.{◌≡◌, ◌≤◌, ◌+◌, ℕ, Bool, true, false, cond, ◌&&◌, nat_le, List, [], ◌∷◌, ◌++◌, length, Option, refl, ap, ◌∙◌, arith}
use Rattle.std.proofs.lemmas.Bool.{lt-leb}
use Rattle.std.proofs.lemmas.List.{length-append}
use Rattle.std.proofs.lemmas.List.Sums.{sum_by-cons}
use Rattle.sk_base.specs.declared.find.Paging.{Paging}
use Rattle.sk_base.specs.Documents.{has_term}
use Rattle.sk_base.specs.Numbers.{Docs}
use Rattle.sk_sorted.specs.Entries.{RiseAbove}
use Rattle.sk_query.specs.Trees.{Tree}
use Rattle.sk_model.specs.Documents.{Document}
use Rattle.sk_model.specs.Matches.{found_by}
use Rattle.sk_model.specs.Sharp.{up, ups, sharp}
use Rattle.sk_report.proofs.ReportLaws.{within_sharp}
use Rattle.sk_page.specs.Shown.{is_behind_page}
use Rattle.sk_page.specs.Tells.{IsSpent}
use Rattle.sk_page.specs.Views.{PageOf}
use Rattle.sk_page.specs.Walks.{held_by}
use Rattle.sk_page.specs.declared.page.Page.{Page}
use Rattle.sk_page.proofs.ShownLaws.{shown_beside}
use Rattle.sk_page.proofs.SharpLaws.{within_stop, within_rare, within_decay}
use Rattle.sk_page.proofs.TellsLaws.{more_keys, more_values}
use Rattle.sk_page.proofs.WalkLaws.{found_append}

-- ---- one reading of each list

-- no posting has the id 0
up_none : (t : List ℕ) (low : ℕ) (docs : Docs) → RiseAbove low docs → up t 0 docs ≡ 0
up_none t low [] rise = refl
up_none t low (d ∷ docs) rise =
    let own : cond {A = ℕ} (has_term t d.1.terms && nat_le d.0 0) 1 0 ≡ 0 = step (has_term t d.1.terms) (nat_le d.0 0) (lt-leb d.0 0 (let above = rise.0 in omega (arith, above))) in
    sum_by-cons (λ (one : ℕ × Document). cond (has_term t one.1.terms && nat_le one.0 0) 1 0) d docs ∙ omega (arith, own, up_none t d.0 docs rise.1)
  where
    step : (a b : Bool) → b ≡ false → cond {A = ℕ} (a && b) 1 0 ≡ 0
    step true true e = absurd (cc)
    step true false e = refl
    step false b e = refl

pub ups_none : (lists : List (List ℕ)) (docs : Docs) → RiseAbove 0 docs → ups lists 0 docs ≡ length lists
ups_none [] docs rise = refl
ups_none (t ∷ lists) docs rise = omega (arith, up_none t 0 docs rise, ups_none lists docs rise)

-- ---- within the sharp bound

module _ (query : Tree) (paging : Paging) (docs : Docs) (greatest : ℕ) (give : ℕ → Option ℕ) (need : ℕ) (page : Page) (of : PageOf page query paging docs greatest give need) where
  saw_few : length of.saw ≤ length (found_by query paging docs)
  saw_few =
      let beside = (shown_beside (is_behind_page paging.order (held_by paging docs of.saw)) (λ _. []) (λ _ _ _. refl) (found_by query paging of.walk.before) of.saw of.walk.shown).long in
      let all : length (found_by query paging docs) ≡ length (found_by query paging of.walk.before ++ found_by query paging of.walk.rest) =
      ap length (ap (found_by query paging) of.walk.split ∙ found_append query paging of.walk.before of.walk.rest) in
      omega (arith, beside, all, length-append (found_by query paging of.walk.before) (found_by query paging of.walk.rest))

  -- at all times, whatever the number of hits
  pub spent_sharp : (spent : ℕ) → IsSpent query paging docs spent → (hits : ℕ) → spent + page.read ≤ sharp query paging docs hits
  spent_sharp spent lists hits =
      let list = lists.lists in
      let keys = more_keys paging.collapse (length of.saw) (length (found_by query paging docs)) saw_few in
      let values = more_values paging.order.by (length of.saw) (length (found_by query paging docs)) saw_few in
      within_sharp query paging docs hits (spent + page.read)
      (omega (arith, of.read, list, keys, values))
      (within_stop query paging docs spent (length of.saw) hits (spent + page.read) lists (omega (arith, of.read)))
      (within_rare query paging docs spent (length (found_by query paging docs)) hits (spent + page.read) lists (omega (arith, of.read, keys, values)))
      (within_decay query paging docs spent (length of.saw) hits (spent + page.read) lists (omega (arith, of.read)))
