-- How many terms there are.
use Rattle.std.proofs.Common.{length}
use Rattle.sk_tree.proofs.synonym.+open_sums.Given as goal

abbrev pub decreases-open_sums : goal.decreases-open_sums
decreases-open_sums g l = length l.numbers.now
