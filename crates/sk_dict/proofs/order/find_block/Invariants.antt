use Rattle.std.proofs.Common.{◌-◌}
use Rattle.sk_dict.specs.Searches.{passes}
use Rattle.sk_dict.proofs.BlockLemmas.{IsHalved}
use Rattle.sk_dict.proofs.order.find_block.Given as goal

abbrev pub invariant-halves : goal.invariant-halves
invariant-halves l = IsHalved (passes l.terms l.key l.behind) l.blocks l.low l.high

abbrev pub decreases-halves : goal.decreases-halves
decreases-halves l = l.high - l.low
