-- The orders of matches are total, and no two ids tie.
use Rattle.std.proofs.Common.{◌≡◌, ℕ, Bool, true, false, cond, List, sym, ap, arith, true≢false}
use Rattle.std.proofs.lemmas.Bool.Decides.{nat_tests}
use Rattle.std.specs.Cmp.{IsTotalOrder, on_total, back_total, then_total, nat_cmp_total}
use Rattle.std.specs.Ordering.{nat_cmp, ordering_then, is_eq}
use Rattle.std.specs.Cmp.Lexicographic.{slice_cmp, nat_list_cmp_total}
use Rattle.std.specs.declared.cmp.Ordering.{Ordering}
use Rattle.std.specs.declared.cmp.Ordering.TheVariants.{Less, Equal, Greater}
use Rattle.sk_base.specs.declared.rank.Rank.{Rank}
use Rattle.sk_base.specs.declared.rank.SortKey.{SortKey}
use Rattle.sk_base.specs.declared.rank.Order.{Order}
use Rattle.sk_base.specs.declared.rank.OrderBy.{OrderBy}
use Rattle.sk_base.specs.Before.{value_cmp, weight_cmp, id_cmp, cmp_by, rank_cmp}

weight_total : IsTotalOrder weight_cmp
weight_total = on_total (λ (x : Rank). x.weight) (back_total nat_cmp_total)

id_total : (falling : Bool) → IsTotalOrder (id_cmp falling)
id_total true = on_total (λ (x : Rank). x.id) (back_total nat_cmp_total)
id_total false = on_total (λ (x : Rank). x.id) nat_cmp_total

either_way : (reverse : Bool) → IsTotalOrder (λ (v w : List ℕ). cond reverse (slice_cmp nat_cmp w v) (slice_cmp nat_cmp v w))
either_way true = back_total nat_list_cmp_total
either_way false = nat_list_cmp_total

value_total : (key : SortKey) → IsTotalOrder (λ (x y : Rank). value_cmp key x.value y.value)
value_total key = on_total (λ (x : Rank). x.value) (either_way key.reverse)

by_total : (by : OrderBy) (falling : Bool) → IsTotalOrder (cmp_by by falling)
by_total OrderBy.Relevance falling = then_total weight_total (id_total falling)
by_total (OrderBy.Value key) falling = then_total (value_total key) (id_total falling)
by_total (OrderBy.ValueThenRelevance key) falling = then_total (value_total key) (then_total weight_total (id_total falling))
by_total (OrderBy.RelevanceThenValue key) falling = then_total weight_total (then_total (value_total key) (id_total falling))

pub rank_total : (order : Order) → IsTotalOrder (rank_cmp order)
rank_total order = by_total order.by order.falling

-- what ties by two orders ties by the second
second_ties : (a b : Ordering) → ordering_then a b ≡ Equal → b ≡ Equal
second_ties Less b e = absurd (true≢false (sym (ap is_eq e)))
second_ties Equal b e = e
second_ties Greater b e = absurd (true≢false (sym (ap is_eq e)))

same_number : (i j : ℕ) → is_eq (nat_cmp i j) ≡ true → i ≡ j
same_number i j e = grind (arith, nat_tests)

same_id : (falling : Bool) (x y : Rank) → id_cmp falling x y ≡ Equal → x.id ≡ y.id
same_id true x y e = sym (same_number y.id x.id (ap is_eq e))
same_id false x y e = same_number x.id y.id (ap is_eq e)

by_ids_tie : (by : OrderBy) (falling : Bool) (x y : Rank) → cmp_by by falling x y ≡ Equal → x.id ≡ y.id
by_ids_tie OrderBy.Relevance falling x y e = same_id falling x y (second_ties (weight_cmp x y) (id_cmp falling x y) e)
by_ids_tie (OrderBy.Value key) falling x y e = same_id falling x y (second_ties (value_cmp key x.value y.value) (id_cmp falling x y) e)
by_ids_tie (OrderBy.ValueThenRelevance key) falling x y e =
    same_id falling x y (second_ties (weight_cmp x y) (id_cmp falling x y) (second_ties (value_cmp key x.value y.value) (ordering_then (weight_cmp x y) (id_cmp falling x y)) e))
by_ids_tie (OrderBy.RelevanceThenValue key) falling x y e =
    same_id falling x y (second_ties (value_cmp key x.value y.value) (id_cmp falling x y) (second_ties (weight_cmp x y) (ordering_then (value_cmp key x.value y.value) (id_cmp falling x y)) e))

pub ids_tie : (order : Order) (x y : Rank) → rank_cmp order x y ≡ Equal → x.id ≡ y.id
ids_tie order x y e = by_ids_tie order.by order.falling x y e
