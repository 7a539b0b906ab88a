use Rattle.std.proofs.Common.{◌<◌, length, arith}
use Rattle.sk_query.specs.Trees.{query_view}
use Rattle.sk_shards.proofs.OpenLemmas.{opened_next, spent_next}
use Rattle.sk_shards.proofs.forest.open_trees.Goals as goal

pub indexes-preserved : goal.indexes-preserved
indexes-preserved g c =
    let l : c.indexes.index-index < length c.args.indexes.now = omega arith in
    let one = c.in_ok-tree.ensures in (
      opened_next c.args.indexes.now c.indexes.index-index c.indexes.trees.items c.push.new.self.items (query_view c.args.query.now) c.args.scheme c.index-item.result c.in_ok-tree.tree l c.index-item.is c.in_ok-push.ensures.items
          c.indexes.invariant.0 (record { built = one.built; left = one.left; need = one.need; stops = one.stops }),
      omega (arith, c.indexes.invariant.1, one.cost, spent_next c.indexes.trees.items c.push.new.self.items c.in_ok-tree.tree c.in_ok-push.ensures.items),
    )
