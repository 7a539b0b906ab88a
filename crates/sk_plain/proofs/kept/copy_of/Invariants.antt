use Rattle.std.proofs.Common.{◌≡◌, take}
use Rattle.sk_plain.proofs.kept.copy_of.Given as goal

abbrev pub invariant-ranks : goal.invariant-ranks
invariant-ranks l = l.copy.items ≡ take l.rank-index l.ranks
