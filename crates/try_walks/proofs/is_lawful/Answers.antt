-- The tree is on the index.
use Rattle.std.proofs.Common.{arith}
use Rattle.try_walks.proofs.is_lawful.Goals as goal

pub open-requires : goal.open-requires
open-requires g c = c.requires

pub seeks_lawfully-lawful-requires-clause-tree : goal.seeks_lawfully-lawful-requires-clause-tree
seeks_lawfully-lawful-requires-clause-tree g c = c.in_ok-tree.ensures.built.tree

pub seeks_lawfully-lawful-requires-clause-need : goal.seeks_lawfully-lawful-requires-clause-need
seeks_lawfully-lawful-requires-clause-need g c = c.in_ok-tree.ensures.need
