use Rattle.std.proofs.Common.{◌-◌}
use Rattle.sk_dict.specs.Searches.{passes}
use Rattle.sk_dict.proofs.BlockLemmas.{IsParted}
use Rattle.sk_dict.proofs.order.find_slot.Given as goal

abbrev pub invariant-halves : goal.invariant-halves
invariant-halves l = IsParted (passes l.terms l.key l.behind) l.numbers l.low l.high

abbrev pub decreases-halves : goal.decreases-halves
decreases-halves l = l.high - l.low
