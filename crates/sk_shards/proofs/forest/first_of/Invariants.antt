use Rattle.std.proofs.Common.{List}
use Rattle.sk_index.specs.Indexed.{Indexed}
use Rattle.sk_shards.specs.Forests.{AreOver, IsFirstOf}
use Rattle.sk_shards.proofs.forest.first_of.Given as goal

-- the first of the parts so far
abbrev pub invariant-trees : goal.invariant-trees
invariant-trees l = (indexes : List Indexed) → AreOver indexes l.trees → IsFirstOf indexes l.trees l.i l.first
