-- What the bounds on the number of matches say.
-- Source: Xapian's API documentation (`MSet::get_matches_lower_bound` and its kin, `checkatleast` of `Enquire::get_mset`, `MSetIterator::get_collapse_count`). How far the bounds may lie apart, which matches must be seen, and where they are exact is own.
use Rattle.std.specs.Prelude.{◌≡◌, ◌≤◌, ◌<◌, ◌⊎◌, ℕ, ◌+◌, ◌-◌, max, List, length, take}
use Rattle.sk_base.specs.declared.find.Options.{Options}
use Rattle.sk_base.specs.declared.find.Paging.{Paging}
use Rattle.sk_base.specs.declared.rank.Rank.{Rank}
use Rattle.sk_base.specs.Numbers.{Docs}
use Rattle.sk_model.specs.Matches.{key_of}
use Rattle.sk_model.specs.Page.{kept, dropped}

-- How many matches are wanted to be seen: those that are to be checked, and those before the page's end.
abbrev pub wanted_by : Options → ℕ
wanted_by options = max options.check (options.first + options.size)

-- How many of its matches a find wants to see.
abbrev pub wanted : Paging → ℕ
wanted paging = wanted_by paging.options

-- The matches that a find must see: the first of them by id.
abbrev pub seen : Paging → List Rank → List Rank
seen paging ranks = take (wanted paging) ranks

-- The matches that a find keeps, the best first.
abbrev pub kept_by : Paging → Docs → List Rank → List Rank
kept_by paging docs ranks = kept paging.order paging.collapse (key_of paging.collapse docs) ranks

-- How many matches of this key a find drops.
abbrev pub dropped_by : Paging → Docs → List ℕ → List Rank → ℕ
dropped_by paging docs k ranks = dropped paging.order paging.collapse (key_of paging.collapse docs) k ranks

-- How many of these matches are not kept.
abbrev pub duplicates : Paging → Docs → List Rank → ℕ
duplicates paging docs ranks = length ranks - length (kept_by paging docs ranks)

-- All matches are seen, or none can weigh as much as the cutoff, since nothing weighs more than the greatest weight.
abbrev pub AllSeen : Paging → List Rank → ℕ → Type 0
AllSeen paging ranks greatest = (length ranks < wanted paging) ⊎ (greatest < paging.options.cutoff)

-- The true count lies between the two bounds; they are no further apart than what was not seen allows, and they are the true count where all was seen.
pub record Counts (paging : Paging) (docs : Docs) (ranks : List Rank) (greatest static lower upper : ℕ) : Type 0 where
  pub of_seen : length (kept_by paging docs (seen paging ranks)) ≤ lower
  pub at_least : lower ≤ length (kept_by paging docs ranks)
  pub at_most : length (kept_by paging docs ranks) ≤ upper
  pub of_static : upper ≤ static - duplicates paging docs (seen paging ranks)
  pub exact_lower : AllSeen paging ranks greatest → lower ≡ length (kept_by paging docs ranks)
  pub exact_upper : AllSeen paging ranks greatest → upper ≡ length (kept_by paging docs ranks)

-- How many documents were collapsed into one of this key: no fewer than are dropped of what a find must see, and no more than are dropped of all.
pub record CollapseCount (paging : Paging) (docs : Docs) (ranks : List Rank) (k : List ℕ) (collapsed : ℕ) : Type 0 where
  pub at_least : dropped_by paging docs k (seen paging ranks) ≤ collapsed
  pub at_most : collapsed ≤ dropped_by paging docs k ranks
