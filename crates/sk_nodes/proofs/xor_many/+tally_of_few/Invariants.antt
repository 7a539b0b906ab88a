-- How many sides there are.
use Rattle.std.proofs.Common.{length}
use Rattle.sk_nodes.proofs.xor_many.+tally_of_few.Given as goal

abbrev pub decreases-tally_of_few : goal.decreases-tally_of_few
decreases-tally_of_few l = length l.tops.now
