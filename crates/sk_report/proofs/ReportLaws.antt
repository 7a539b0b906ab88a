-- There is a report that a find may have.
use Rattle.std.proofs.Common.{◌≡◌, ◌≤◌, ◌+◌, ◌/◌, ◌<◌, ℕ, Bool, true, false, cond, option_map, List, [], ◌∷◌, length, map, Option, Some, None, IfSome, refl, arith}
use Rattle.std.specs.List.{AllZip}
use Rattle.sk_base.specs.declared.find.Paging.{Paging}
use Rattle.sk_base.specs.declared.rank.Rank.{Rank}
use Rattle.sk_base.specs.declared.report.Ranked.{Ranked}
use Rattle.sk_base.specs.declared.report.Report.{Report}
use Rattle.sk_base.specs.Numbers.{Docs}
use Rattle.sk_query.specs.Trees.{Tree}
use Rattle.sk_query.specs.Fits.{is_sound}
use Rattle.sk_model.specs.Edits.{document_at}
use Rattle.sk_model.specs.Matches.{found_by, key_of}
use Rattle.sk_model.specs.Bounds.{ceil}
use Rattle.sk_model.specs.Counts.{kept_by, dropped_by}
use Rattle.sk_model.specs.Sharp.{stop_number, rare_number, decay_number, at_most, sharp}
use Rattle.sk_model.specs.Allowance.{allowance}
use Rattle.sk_model.specs.Reports.{payload_of, page_of, IsHit}
use Rattle.sk_report.specs.Reports.{ReportsFor, ReportsOver}
use Rattle.sk_sorted.specs.Entries.{RiseAbove}
use Rattle.sk_model.specs.Joined.{joined_ceil, joined_most, joined_stop, joined_stop_point, joined_ups, term_lists}
use Rattle.sk_model.specs.Sharp.{is_plain}
use Rattle.sk_model.proofs.JoinedLaws.{counts_in_parts}
use Rattle.sk_model.proofs.CountLaws.{found_counts, true_collapse}
use Rattle.sk_model.proofs.SettledLaws.{sharp_hits}

least : (steps n : ℕ) (o : Option ℕ) → steps ≤ n → IfSome o (λ m. steps ≤ m) → steps ≤ at_most n o
least steps n None one two = one
least steps n (Some m) one two = omega (arith, one, two)

-- what is within each number is within the sharp bound
pub within_sharp : (query : Tree) (paging : Paging) (docs : Docs) (hits steps : ℕ) → steps ≤ allowance query paging docs (length (found_by query paging docs)) hits
    → IfSome (stop_number query paging docs hits) (λ n. steps ≤ n) → IfSome (rare_number query paging docs (length (found_by query paging docs)) hits) (λ n. steps ≤ n) → IfSome (decay_number query paging docs hits) (λ n. steps ≤ n)
    → steps ≤ sharp query paging docs hits
within_sharp query paging docs hits steps all stop rare decay =
    let list = allowance query paging docs (length (found_by query paging docs)) hits in
    let of_stop = stop_number query paging docs hits in
    let of_rare = rare_number query paging docs (length (found_by query paging docs)) hits in
    least steps (at_most (at_most list of_stop) of_rare) (decay_number query paging docs hits) (least steps (at_most list of_stop) of_rare (least steps list of_stop all stop) rare) decay

module _ (query : Tree) (paging : Paging) (docs : Docs) where
  abbrev pub hit : Rank → Ranked
  hit rank = record { id = rank.id; weight = rank.weight; collapsed = dropped_by paging docs (key_of paging.collapse docs rank) (found_by query paging docs); payload = payload_of (document_at rank.id docs) }

  each_hit : (page : List Rank) → AllZip (IsHit query paging docs) page (map hit page)
  each_hit [] = tt
  each_hit (rank ∷ page) =
      (record { id = refl; weight = refl; payload = refl; collapsed = true_collapse paging docs (found_by query paging docs) (key_of paging.collapse docs rank) }, each_hit page)

  -- the page, with what is dropped of each key; the true count as both bounds; one step for each hit
  abbrev exact : Report
  exact = record {
    hits = map hit (page_of query paging docs);
    lower = length (kept_by paging docs (found_by query paging docs));
    estimate = (length (kept_by paging docs (found_by query paging docs)) + length (kept_by paging docs (found_by query paging docs))) / 2;
    upper = length (kept_by paging docs (found_by query paging docs));
    greatest = ceil query paging.options.scheme 1 docs;
    steps = length (map hit (page_of query paging docs));
  }

  pub exact_is : (above : ℕ) → is_sound above query ≡ true → ReportsFor query paging docs exact
  exact_is above e = record {
    hits = each_hit (page_of query paging docs);
    counts = found_counts query paging above (ceil query paging.options.scheme 1 docs) docs e;
    estimate = refl;
    greatest = refl;
    least_steps = omega arith;
    most_steps = sharp_hits paging docs (length exact.hits) query;
  }

-- ---- over documents in several parts

-- the hits are steps in each number
joined_hits : (n : ℕ) (query : Tree) (paging : Paging) (docs : Docs) (hits : ℕ) → hits ≤ joined_most n query paging docs hits
joined_hits n query paging docs hits = least hits (allowance query paging docs (length (found_by query paging docs)) hits) (joined_stop n query paging docs hits) (omega arith) (in_stop (is_plain paging) (term_lists query))
  where
    in_stop : (b : Bool) (o : Option (List (List ℕ))) → IfSome (cond b (option_map (λ lists. joined_ups n lists (joined_stop_point n query paging docs) docs + hits) o) None) (λ m. hits ≤ m)
    in_stop true None = tt
    in_stop true (Some lists) = omega arith
    in_stop false o = tt

module _ (n : ℕ) (query : Tree) (paging : Paging) (docs : Docs) where
  abbrev pub exact_over : Report
  exact_over = record {
    hits = map (hit query paging docs) (page_of query paging docs);
    lower = length (kept_by paging docs (found_by query paging docs));
    estimate = (length (kept_by paging docs (found_by query paging docs)) + length (kept_by paging docs (found_by query paging docs))) / 2;
    upper = length (kept_by paging docs (found_by query paging docs));
    greatest = joined_ceil n query paging.options.scheme docs;
    steps = length (map (hit query paging docs) (page_of query paging docs));
  }

  pub exact_over_is : (above : ℕ) → 0 < n → RiseAbove 0 docs → is_sound above query ≡ true → ReportsOver n query paging docs exact_over
  exact_over_is above some rise e = record {
    hits = each_hit query paging docs (page_of query paging docs);
    counts = counts_in_parts n docs some rise query paging above (joined_ceil n query paging.options.scheme docs) e;
    estimate = refl;
    greatest = refl;
    least_steps = omega arith;
    most_steps = joined_hits n query paging docs (length exact_over.hits);
  }

pub report_there : (query : Tree) (paging : Paging) (above : ℕ) (docs : Docs) → is_sound above query ≡ true → (report : Report) × ReportsFor query paging docs report
report_there query paging above docs e = (exact query paging docs, exact_is query paging docs above e)
