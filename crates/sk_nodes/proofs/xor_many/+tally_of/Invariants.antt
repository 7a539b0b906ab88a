-- How many sides there are.
use Rattle.std.proofs.Common.{length}
use Rattle.sk_nodes.proofs.xor_many.+tally_of.Given as goal

abbrev pub decreases-tally_of : goal.decreases-tally_of
decreases-tally_of l = length l.tops.now
