-- The exact report is one that the find may have; and no more match, or are kept, than there are.
use Rattle.std.proofs.Common.{◌≡◌, ◌<◌, ◌≤◌, ◌+◌, ◌/◌, ◌^◌, ℕ, true, nat_le, List, [], ◌∷◌, length, Option, Some, None, refl, sym, subst, arith, le_refl}
use Rattle.std.specs.List.{cons_option}
use Rattle.sk_base.specs.declared.find.Paging.{Paging}
use Rattle.sk_base.specs.declared.find.Scheme.{Scheme}
use Rattle.sk_base.specs.declared.rank.Order.{Order}
use Rattle.sk_base.specs.declared.rank.Rank.{Rank}
use Rattle.sk_base.specs.Numbers.{Docs}
use Rattle.sk_query.specs.Trees.{Tree}
use Rattle.sk_query.specs.Fits.{is_sound}
use Rattle.sk_model.specs.Matches.{rank_of, matches, found_by, key_of}
use Rattle.sk_model.specs.Counts.{kept_by}
use Rattle.sk_model.specs.Sharp.{sharp}
use Rattle.sk_report.specs.Reports.{ReportsFor}
use Rattle.sk_model.proofs.KeptLaws.{kept_few}
use Rattle.sk_model.proofs.CountLaws.{within}
use Rattle.sk_report.proofs.ReportLaws.{exact_is}
use Rattle.sk_model.proofs.SettledLaws.{sharp_hits}
use Rattle.sk_plain.specs.Pages.{hits_of, count_of, report_for}

half : (n : ℕ) → n ≡ (n + n) / 2
half n = omega arith

pub exact_reports : (query : Tree) (paging : Paging) (above : ℕ) (docs : Docs) → is_sound above query ≡ true → ReportsFor query paging docs (report_for query paging docs)
exact_reports query paging above docs e =
    let so = exact_is query paging docs above e in
    record {
      hits = so.hits;
      counts = so.counts;
      estimate = half (count_of query paging docs);
      greatest = refl;
      least_steps = sharp_hits paging docs (length (hits_of query paging docs)) query;
      most_steps = le_refl (sharp query paging docs (length (hits_of query paging docs)));
    }

step_few : (o : Option Rank) (xs : List Rank) (n : ℕ) → length xs ≤ n → length (cons_option o xs) ≤ n + 1
step_few None xs n h = omega (arith, h)
step_few (Some x) xs n h = omega (arith, h)

matches_few : (tree : Tree) (scheme : Scheme) (order : Order) (docs : Docs) → length (matches tree scheme order docs) ≤ length docs
matches_few tree scheme order [] = omega arith
matches_few tree scheme order (one ∷ more) =
    let rest : length (matches tree scheme order more) ≤ length more = matches_few tree scheme order more in
    let step : length (cons_option (rank_of tree scheme order one) (matches tree scheme order more)) ≤ length more + 1 = step_few (rank_of tree scheme order one) (matches tree scheme order more) (length more) rest in
    omega (arith, step)

-- fewer than 2^32 documents, so fewer matches
pub few_found : (tree : Tree) (paging : Paging) (docs : Docs) (ranks : List Rank) → ranks ≡ found_by tree paging docs → length docs < 2 ^ 32 → length ranks < 2 ^ 32
few_found tree paging docs ranks is few =
    let all : length (matches tree paging.options.scheme paging.order docs) ≤ length docs = matches_few tree paging.options.scheme paging.order docs in
    let some : length (found_by tree paging docs) ≤ length (matches tree paging.options.scheme paging.order docs) = within (λ (x : Rank). nat_le paging.options.cutoff x.weight) (matches tree paging.options.scheme paging.order docs) in
    subst (λ xs. length xs < 2 ^ 32) (sym is) (omega (arith, few, all, some))

-- and fewer that are kept
pub few_kept : (paging : Paging) (docs : Docs) (ranks kept : List Rank) → kept ≡ kept_by paging docs ranks → length ranks < 2 ^ 32 → length kept < 2 ^ 32
few_kept paging docs ranks kept is few = subst (λ xs. length xs < 2 ^ 32) (sym is) (omega (arith, few, kept_few paging.order paging.collapse (key_of paging.collapse docs) ranks))
