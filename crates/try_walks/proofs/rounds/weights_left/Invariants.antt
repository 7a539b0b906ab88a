use Rattle.std.proofs.Common.{◌≡◌}
use Rattle.sk_tree.specs.Built.{IsTree}
use Rattle.try_walks.proofs.rounds.weights_left.Given as goal

abbrev pub invariant-walk : goal.invariant-walk
invariant-walk g l = IsTree l.index l.tree × (l.tree.need ≡ 0)
