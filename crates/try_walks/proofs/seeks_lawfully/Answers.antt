-- The tree is on the index, and its need rises.
use Rattle.std.proofs.Common.{arith}
use Rattle.try_walks.proofs.seeks_lawfully.Goals as goal

pub seek-requires-clause-rising : goal.seek-requires-clause-rising
seek-requires-clause-rising g c = omega (arith, c.requires.need)

pub seek-requires-2-clause-tree : goal.seek-requires-2-clause-tree
seek-requires-2-clause-tree g c = c.seek.ensures.tree

pub seek-requires-2-clause-rising : goal.seek-requires-2-clause-rising
seek-requires-2-clause-rising g c = omega (arith, c.seek.ensures.need, c.saturating_add-second.ensures)

pub left_of-requires-clause-tree : goal.left_of-requires-clause-tree
left_of-requires-clause-tree g c = c.seek-2.ensures.tree

pub left_of-requires-clause-need : goal.left_of-requires-clause-need
left_of-requires-clause-need g c = omega (arith, c.seek-2.ensures.need)
