use Rattle.std.proofs.Common.{◌≡◌, ◌+◌, take}
use Rattle.sk_query.specs.Trees.{query_view}
use Rattle.sk_shards.specs.Forests.{AreOpened, spent_in}
use Rattle.sk_shards.proofs.forest.open_trees.Given as goal

-- the trees of the indexes so far
abbrev pub invariant-indexes : goal.invariant-indexes
invariant-indexes g l = AreOpened (take l.index-index l.indexes) l.trees.items (query_view l.query) l.scheme × (l.steps ≡ l.fn.steps + spent_in l.trees.items)
