use Rattle.std.proofs.Common.{◌≡◌, ◌≤◌, ◌+◌, ◌*◌, ◌^◌, sum_by, drop}
use Rattle.sk_query.specs.Trees.{query_view}
use Rattle.sk_model.specs.Bounds.{static_count}
use Rattle.sk_shards.proofs.forest.all_statics.Given as goal

-- what was added, and what is left, is the whole
abbrev pub invariant-indexes : goal.invariant-indexes
invariant-indexes l =
    (l.sum + sum_by (λ i. static_count (query_view l.query) i.live.documents) (drop l.index-index l.indexes) ≡ sum_by (λ i. static_count (query_view l.query) i.live.documents) l.indexes)
    × (l.sum ≤ l.index-index * 2 ^ 32)
