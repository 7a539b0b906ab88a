use Rattle.std.proofs.Common.{◌≡◌, max, map, drop}
use Rattle.sk_query.specs.Trees.{query_view}
use Rattle.sk_model.specs.Bounds.{ceil, greatest_in}
use Rattle.sk_shards.proofs.forest.greatest_ceil.Given as goal

-- the greatest so far, and that of the indexes that are left
abbrev pub invariant-indexes : goal.invariant-indexes
invariant-indexes l =
    max l.greatest (greatest_in (map (λ i. ceil (query_view l.query) l.scheme 1 i.live.documents) (drop l.index-index l.indexes)))
    ≡ greatest_in (map (λ i. ceil (query_view l.query) l.scheme 1 i.live.documents) l.indexes)
