-- How many sides there are.
use Rattle.std.proofs.Common.{length}
use Rattle.sk_nodes.proofs.moves.+end_all.Given as goal

abbrev pub decreases-end_all : goal.decreases-end_all
decreases-end_all l = length l.tops.now
