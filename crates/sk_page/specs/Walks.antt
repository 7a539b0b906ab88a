-- Where a search stands among the documents, and what it is sure of.
-- Source: Own.
use Rattle.std.specs.Prelude.{◌≡◌, ◌≤◌, ◌<◌, ◌+◌, ◌⊎◌, ℕ, true, List, ◌++◌, length, take, Option, None}
use Rattle.std.specs.List.{AllByRecursion}
use Rattle.sk_base.specs.declared.find.Paging.{Paging}
use Rattle.sk_base.specs.declared.rank.Rank.{Rank}
use Rattle.sk_base.specs.Numbers.{Docs}
use Rattle.sk_sorted.specs.Entries.{RiseAbove}
use Rattle.sk_query.specs.Trees.{Tree}
use Rattle.sk_model.specs.Covers.{CoversAt}
use Rattle.sk_model.specs.Counts.{wanted, kept_by}
use Rattle.sk_model.specs.Matches.{found_by}
use Rattle.sk_model.specs.Scores.{score}
use Rattle.sk_page.specs.Shown.{is_behind_page, Shown}

-- How many of the kept matches a page needs, with those before it.
abbrev pub page_end : Paging → ℕ
page_end paging = paging.options.first + paging.options.size

-- Of the matches that were seen, the kept ones up to the end of the page, the best first.
abbrev pub held_by : Paging → Docs → List Rank → List Rank
held_by paging docs seen = take (page_end paging) (kept_by paging docs seen)

-- As many are kept as the page needs.
abbrev pub IsFull : Paging → Docs → List Rank → Type 0
IsFull paging docs seen = page_end paging ≤ length (kept_by paging docs seen)

-- Each match up to the end of the page comes before this one.
abbrev pub IsBehindPage : Paging → Docs → List Rank → Rank → Type 0
IsBehindPage paging docs seen r = is_behind_page paging.order (held_by paging docs seen) r ≡ true

-- Behind this id, what weighs less than the need is no match, or comes behind the page.
abbrev pub IsNeed : Paging → Docs → List Rank → ℕ → ℕ → Type 0
IsNeed paging docs seen last need =
    (need ≤ paging.options.cutoff) ⊎ (IsFull paging docs seen × ((r : Rank) → r.weight < need → last < r.id → IsBehindPage paging docs seen r))

-- A search saw these matches among the documents up to an id; behind it, what it is still given covers what the query scores, under the need.
pub record Walk (query : Tree) (paging : Paging) (docs : Docs) (give : ℕ → Option ℕ) (need : ℕ) (seen : List Rank) : Type 0 where
  pub last : ℕ
  pub before : Docs
  pub rest : Docs
  pub split : docs ≡ before ++ rest
  pub shown : Shown (is_behind_page paging.order (held_by paging docs seen)) (found_by query paging before) seen
  pub first : take (wanted paging) (found_by query paging before) ≡ take (wanted paging) seen
  pub exact : need ≤ paging.options.cutoff → found_by query paging before ≡ seen
  pub few : length seen < wanted paging → need ≤ paging.options.cutoff
  pub quiet : AllByRecursion (λ one. give one.0 ≡ None) before
  pub low : AllByRecursion (λ one. one.0 ≤ last) before
  pub under : AllByRecursion (λ s. s.id ≤ last) seen
  pub rises : RiseAbove last rest
  pub covers : AllByRecursion (λ one. CoversAt (score query paging.options.scheme 1 one.1) (give one.0) need) rest
  pub right : IsNeed paging docs seen last need

-- What a search is sure of at its end: what it did not see, or not as it is, comes behind the page; it saw the first matches, and all where there are fewer than it wanted to see.
pub record HasEnded (query : Tree) (paging : Paging) (docs : Docs) (seen : List Rank) : Type 0 where
  pub shown : Shown (is_behind_page paging.order (held_by paging docs seen)) (found_by query paging docs) seen
  pub first : take (wanted paging) (found_by query paging docs) ≡ take (wanted paging) seen
  pub full : (found_by query paging docs ≡ seen) ⊎ IsFull paging docs seen
  pub exact : length (found_by query paging docs) < wanted paging → found_by query paging docs ≡ seen
