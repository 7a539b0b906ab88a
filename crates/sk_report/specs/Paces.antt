-- How far a search has come that saw so many matches.
-- Source: Own.
use Rattle.std.specs.Prelude.{◌≡◌, ◌<◌, ℕ, max, true, take, List, [], ◌∷◌}
use Rattle.sk_base.specs.declared.find.Paging.{Paging}
use Rattle.sk_base.specs.declared.rank.Rank.{Rank}
use Rattle.sk_model.specs.Counts.{wanted}
use Rattle.sk_model.specs.Sharp.{is_plain}

-- The greatest id of these, 0 where there is none.
abbrev pub greatest_id : List Rank → ℕ
greatest_id [] = 0
greatest_id (r ∷ rs) = max r.id (greatest_id rs)

-- The id of the match by which so many are seen, 0 before the first.
abbrev pub reached_by : ℕ → List Rank → ℕ
reached_by n ranks = greatest_id (take n ranks)

-- A find by relevance, without collapsing and without a cutoff, wants to see more than so many matches.
abbrev pub IsEarly : Paging → ℕ → Type 0
IsEarly paging seen = (is_plain paging ≡ true) × (paging.options.cutoff ≡ 0) × (seen < wanted paging)
