-- How many sides there are.
use Rattle.std.proofs.Common.{length}
use Rattle.sk_nodes.proofs.or_many.+first_of.Given as goal

abbrev pub decreases-first_of : goal.decreases-first_of
decreases-first_of l = length l.tops.now
