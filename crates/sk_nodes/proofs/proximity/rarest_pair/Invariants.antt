use Rattle.sk_nodes.specs.Proximity.{IsFollowed}
use Rattle.sk_nodes.proofs.proximity.rarest_pair.Given as goal

abbrev pub invariant-pairs : goal.invariant-pairs
invariant-pairs l = IsFollowed l.rarest l.numbers
