-- There are bounds that a find may have.
use Rattle.std.proofs.Common.{◌≡◌, ◌≤◌, ◌+◌, ◌-◌, ℕ, Bool, true, nat_le, List, length, filter, drop, min, refl, arith, length-take, length-drop}
use Rattle.std.proofs.lemmas.List.Sums.{length-filter, count_by-le-length}
use Rattle.sk_base.specs.declared.find.Paging.{Paging}
use Rattle.sk_base.specs.declared.rank.Rank.{Rank}
use Rattle.sk_base.specs.Numbers.{Docs}
use Rattle.sk_query.specs.Trees.{Tree}
use Rattle.sk_query.specs.Fits.{is_sound}
use Rattle.sk_model.specs.Matches.{key_of, matches, found_by}
use Rattle.sk_model.specs.Bounds.{static_count}
use Rattle.sk_model.specs.Counts.{Counts, CollapseCount, wanted, seen, kept_by, dropped_by}
use Rattle.sk_model.proofs.KeptLaws.{kept_front, kept_others, dropped_front, kept_few}
use Rattle.sk_model.proofs.StaticLaws.{matches_within}

-- the true count lies within the bounds on it
pub true_counts : (paging : Paging) (docs : Docs) (ranks : List Rank) (greatest static : ℕ) → length ranks ≤ static → Counts paging docs ranks greatest static (length (kept_by paging docs ranks)) (length (kept_by paging docs ranks))
true_counts paging docs ranks greatest static within =
    let first : length (kept_by paging docs (seen paging ranks)) ≤ length (kept_by paging docs ranks) = kept_front paging.order paging.collapse (key_of paging.collapse docs) (wanted paging) ranks in
    let others : length (kept_by paging docs ranks) ≤ length (kept_by paging docs (seen paging ranks)) + length (drop (wanted paging) ranks) =
    kept_others paging.order paging.collapse (key_of paging.collapse docs) (wanted paging) ranks in
    let front : length (seen paging ranks) ≡ min (wanted paging) (length ranks) = length-take (wanted paging) ranks in
    let rest : length (drop (wanted paging) ranks) ≡ length ranks - wanted paging = length-drop (wanted paging) ranks in
    let few : length (kept_by paging docs (seen paging ranks)) ≤ length (seen paging ranks) = kept_few paging.order paging.collapse (key_of paging.collapse docs) (seen paging ranks) in
    record {
      of_seen = first;
      at_least = omega arith;
      at_most = omega arith;
      of_static = omega (arith, within, others, front, rest, few);
      exact_lower = λ _. refl;
      exact_upper = λ _. refl;
    }

pub within : (p : Rank → Bool) (xs : List Rank) → length (filter p xs) ≤ length xs
within p xs = omega (arith, length-filter p xs, count_by-le-length p xs)

-- no more than match without a cutoff
pub found_within : (query : Tree) (paging : Paging) (above : ℕ) (docs : Docs) → is_sound above query ≡ true → length (found_by query paging docs) ≤ static_count query docs
found_within query paging above docs e =
    let few : length (found_by query paging docs) ≤ length (matches query paging.options.scheme paging.order docs) = within (λ (x : Rank). nat_le paging.options.cutoff x.weight) (matches query paging.options.scheme paging.order docs) in
    let most : length (matches query paging.options.scheme paging.order docs) ≤ static_count query docs = matches_within query paging.options.scheme paging.order above docs e in
    omega (arith, few, most)

pub found_counts : (query : Tree) (paging : Paging) (above greatest : ℕ) (docs : Docs) → is_sound above query ≡ true
    → Counts paging docs (found_by query paging docs) greatest (static_count query docs) (length (kept_by paging docs (found_by query paging docs))) (length (kept_by paging docs (found_by query paging docs)))
found_counts query paging above greatest docs e = true_counts paging docs (found_by query paging docs) greatest (static_count query docs) (found_within query paging above docs e)

-- what is dropped of a key lies within the bounds on it
pub true_collapse : (paging : Paging) (docs : Docs) (ranks : List Rank) (k : List ℕ) → CollapseCount paging docs ranks k (dropped_by paging docs k ranks)
true_collapse paging docs ranks k = record { at_least = dropped_front paging.order paging.collapse (key_of paging.collapse docs) k (wanted paging) ranks; at_most = omega arith }
