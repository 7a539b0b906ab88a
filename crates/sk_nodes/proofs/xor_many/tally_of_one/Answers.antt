-- One side is an odd number of them.
use Rattle.sk_nodes.proofs.ManyLaws.{tally_one}
use Rattle.sk_nodes.proofs.xor_many.tally_of_one.Goals as goal

pub returns-clause-tallied : goal.returns-clause-tallied
returns-clause-tallied c i s top = tally_one i c.args.top.now s top
