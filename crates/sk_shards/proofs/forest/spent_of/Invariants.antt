use Rattle.std.proofs.Common.{◌≡◌, ◌+◌, drop}
use Rattle.sk_shards.specs.Forests.{spent_in}
use Rattle.sk_shards.proofs.forest.spent_of.Given as goal

-- what was added, and what is left, is the whole
abbrev pub invariant-trees : goal.invariant-trees
invariant-trees l = l.spent + spent_in (drop l.tree-index l.trees) ≡ spent_in l.trees
