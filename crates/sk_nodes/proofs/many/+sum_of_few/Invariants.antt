-- How many sides there are.
use Rattle.std.proofs.Common.{length}
use Rattle.sk_nodes.proofs.many.+sum_of_few.Given as goal

abbrev pub decreases-sum_of_few : goal.decreases-sum_of_few
decreases-sum_of_few l = length l.tops.now
