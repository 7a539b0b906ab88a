-- The ids at which a page is settled.
-- Source: Own.
use Rattle.std.specs.Prelude.{ℕ, ◌+◌, ◌-◌, ◌==◌, ◌&&◌, ◌||◌, nat_le, nat_lt, List, [], ◌∷◌, count_by, if◌then◌else◌}
use Rattle.sk_base.specs.declared.find.Paging.{Paging}
use Rattle.sk_base.specs.declared.rank.Rank.{Rank}
use Rattle.sk_base.specs.Numbers.{Docs}
use Rattle.sk_query.specs.Trees.{Tree}
use Rattle.sk_model.specs.Bounds.{ceil}
use Rattle.sk_model.specs.Counts.{wanted}
use Rattle.sk_model.specs.Edits.{last_id}
use Rattle.sk_model.specs.Matches.{found_by}

-- One less, where the match is at least so heavy.
abbrev pub less_heavy : ℕ → ℕ → Rank → ℕ
less_heavy weight m rank = if nat_le weight rank.weight then m - 1 else m

-- The id of the match by which n matches are seen, m of them at least so heavy, and the last id where there are not so many.
abbrev pub settled_from : ℕ → ℕ → ℕ → List Rank → ℕ
settled_from n m weight [] = last_id
settled_from n m weight (rank ∷ ranks) =
    if ((n - 1) == 0) && (less_heavy weight m rank == 0) then rank.id else settled_from (n - 1) (less_heavy weight m rank) weight ranks

-- The least weight whose matches come before any later one of this weight: this one, and one more where ids fall, since then of equal matches the later comes first.
abbrev pub settling_weight : Paging → ℕ → ℕ
settling_weight paging weight = if paging.order.falling then weight + 1 else weight

-- The least id up to which there are as many matches as a find wants to see, and as many as its page needs that no later match of this weight comes before: 0 where it wants none, or where this weight is below the cutoff, and the last id where there is no such id.
abbrev pub settled : Paging → List Rank → ℕ → ℕ
settled paging ranks weight =
    if (wanted paging == 0) || nat_lt weight paging.options.cutoff then 0 else settled_from (wanted paging) (paging.options.first + paging.options.size) (settling_weight paging weight) ranks

-- The stop point: behind it no document can enter the page, since none weighs more.
abbrev pub stop_point : Tree → Paging → Docs → ℕ
stop_point query paging docs = settled paging (found_by query paging docs) (ceil query paging.options.scheme 1 docs)

-- The point from which on a part of an or cannot bring a document into the page by itself.
abbrev pub decay_point : Tree → Tree → Paging → Docs → ℕ
decay_point query part paging docs = settled paging (found_by query paging docs) (ceil part paging.options.scheme 1 docs)

-- How many matches have ids up to this one.
abbrev pub seen_up_to : ℕ → List Rank → ℕ
seen_up_to id ranks = count_by (λ x. nat_le x.id id) ranks

-- How many of these are at least so heavy.
abbrev pub heavy_up_to : ℕ → ℕ → List Rank → ℕ
heavy_up_to weight id ranks = count_by (λ x. nat_le x.id id && nat_le weight x.weight) ranks
