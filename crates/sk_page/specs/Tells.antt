-- What a search tells that saw some of the matches.
-- Source: Own.
use Rattle.std.specs.Prelude.{◌≡◌, ◌≤◌, ◌⊎◌, ℕ, ◌+◌, ◌-◌, ◌/◌, true, List, [], ◌∷◌, length, drop, Some}
use Rattle.std.specs.List.{AllZip}
use Rattle.sk_base.specs.declared.find.Paging.{Paging}
use Rattle.sk_base.specs.declared.rank.Rank.{Rank}
use Rattle.sk_base.specs.declared.report.Ranked.{Ranked}
use Rattle.sk_base.specs.declared.report.Report.{Report}
use Rattle.sk_base.specs.Numbers.{Docs}
use Rattle.sk_query.specs.declared.form.Form.{Form}
use Rattle.sk_query.specs.Trees.{Tree, term, parts, Trees}
use Rattle.sk_model.specs.Allowance.{leaf_readings, key_readings, value_readings}
use Rattle.sk_model.specs.Counts.{wanted, kept_by, dropped_by, duplicates}
use Rattle.sk_model.specs.Edits.{document_at}
use Rattle.sk_model.specs.Matches.{found_by, key_of}
use Rattle.sk_model.specs.Reports.{payload_of}
use Rattle.sk_model.specs.Joined.{term_lists, joined_ups, joined_stop_point}
use Rattle.sk_model.specs.Settled.{stop_point, decay_point}
use Rattle.sk_model.specs.Sharp.{is_plain, flat_lists, ups, rare_lists, rare_readings, terms_in, decay_readings}
use Rattle.sk_page.specs.Walks.{held_by}

-- A hit is a match of the page; of those that were seen so many were collapsed into it.
pub record TellsHit (paging : Paging) (docs : Docs) (seen : List Rank) (rank : Rank) (hit : Ranked) : Type 0 where
  pub id : hit.id ≡ rank.id
  pub weight : hit.weight ≡ rank.weight
  pub payload : hit.payload ≡ payload_of (document_at rank.id docs)
  pub collapsed : hit.collapsed ≡ dropped_by paging docs (key_of paging.collapse docs rank) seen

-- How many matches are kept at the most: as many as were, where all were seen; else as many as can be, less those that were seen and are not kept.
abbrev pub IsUpper : Tree → Paging → Docs → ℕ → ℕ → List Rank → ℕ → Type 0
IsUpper query paging docs greatest static seen upper =
    ((found_by query paging docs ≡ seen) × (upper ≡ length (kept_by paging docs seen)))
    ⊎ ((wanted paging ≤ length seen) × (paging.options.cutoff ≤ greatest) × (upper ≡ static - duplicates paging docs seen))

-- So many readings of lists are within each of the bounds that apply.
pub record IsSpent (query : Tree) (paging : Paging) (docs : Docs) (spent : ℕ) : Type 0 where
  pub lists : spent ≤ leaf_readings query docs
  pub rare : (lists : List (List ℕ)) (m : ℕ) → rare_lists query docs ≡ Some (lists, m) → spent ≤ rare_readings lists m docs
  pub stop : is_plain paging ≡ true → (lists : List (List ℕ)) → flat_lists query docs ≡ Some lists → spent ≤ ups lists (stop_point query paging docs) docs
  pub decay : is_plain paging ≡ true → (ts : Trees) (a b : List ℕ) → query ≡ parts Form.Or ts → terms_in ts ≡ Some (a ∷ b ∷ [])
      → (spent ≤ decay_readings a b (decay_point query (term b) paging docs) docs 0) × (spent ≤ decay_readings b a (decay_point query (term a) paging docs) docs 0)

-- So many readings of the lists of all parts are within each of the bounds that apply over n parts.
pub record IsSpentOver (n : ℕ) (query : Tree) (paging : Paging) (docs : Docs) (spent : ℕ) : Type 0 where
  pub lists : spent ≤ leaf_readings query docs
  pub stop : is_plain paging ≡ true → (lists : List (List ℕ)) → term_lists query ≡ Some lists → spent ≤ joined_ups n lists (joined_stop_point n query paging docs) docs

-- The report of a search that saw these matches, where no document is known to weigh more than this, nor more than so many to match: the page of them, what they say of the number of all, and the readings: of lists, of keys and values, and of payloads.
pub record TellsReport (query : Tree) (paging : Paging) (docs : Docs) (ceiling static : ℕ) (seen : List Rank) (report : Report) : Type 0 where
  pub hits : AllZip (TellsHit paging docs seen) (drop paging.options.first (held_by paging docs seen)) report.hits
  pub lower : report.lower ≡ length (kept_by paging docs seen)
  pub upper : IsUpper query paging docs ceiling static seen report.upper
  pub estimate : report.estimate ≡ (report.lower + report.upper) / 2
  pub greatest : report.greatest ≡ ceiling
  pub least_steps : length report.hits ≤ report.steps
  pub spent : ℕ
  pub most_steps : report.steps ≤ spent + (key_readings paging.collapse (length seen) + value_readings paging.order.by (length seen) + length report.hits)
