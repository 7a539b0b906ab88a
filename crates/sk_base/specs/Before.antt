-- When one match comes before another.
use Rattle.std.specs.Prelude.{ℕ, Bool, List, if◌then◌else◌}
use Rattle.std.specs.Ordering.{ordering_then, nat_cmp, is_lt}
use Rattle.std.specs.declared.cmp.Ordering.{Ordering}
use Rattle.std.specs.Cmp.Lexicographic.{slice_cmp}
use Rattle.sk_base.specs.declared.rank.Rank.{Rank}
use Rattle.sk_base.specs.declared.rank.SortKey.{SortKey}
use Rattle.sk_base.specs.declared.rank.Order.{Order}
use Rattle.sk_base.specs.declared.rank.OrderBy.{OrderBy}

-- Values byte by byte, the lesser first, and in reverse the greater first. The empty value, which is none, is the least.
abbrev pub value_cmp : SortKey → List ℕ → List ℕ → Ordering
value_cmp key v w = if key.reverse then slice_cmp nat_cmp w v else slice_cmp nat_cmp v w

-- The greater weight first.
abbrev pub weight_cmp : Rank → Rank → Ordering
weight_cmp x y = nat_cmp y.weight x.weight

-- The lower id first, and the greater one where ids fall.
abbrev pub id_cmp : Bool → Rank → Rank → Ordering
id_cmp falling x y = if falling then nat_cmp y.id x.id else nat_cmp x.id y.id

-- How two matches are ordered by what decides first, and then by their ids: row by row.
abbrev pub cmp_by : OrderBy → Bool → Rank → Rank → Ordering
cmp_by OrderBy.Relevance falling x y = ordering_then (weight_cmp x y) (id_cmp falling x y)
cmp_by (OrderBy.Value key) falling x y = ordering_then (value_cmp key x.value y.value) (id_cmp falling x y)
cmp_by (OrderBy.ValueThenRelevance key) falling x y = ordering_then (value_cmp key x.value y.value) (ordering_then (weight_cmp x y) (id_cmp falling x y))
cmp_by (OrderBy.RelevanceThenValue key) falling x y = ordering_then (weight_cmp x y) (ordering_then (value_cmp key x.value y.value) (id_cmp falling x y))

-- The order of two matches, `Less` where the first is better.
abbrev pub rank_cmp : Order → Rank → Rank → Ordering
rank_cmp order x y = cmp_by order.by order.falling x y

-- The first is better than the second.
abbrev pub is_before : Order → Rank → Rank → Bool
is_before order x y = is_lt (rank_cmp order x y)
