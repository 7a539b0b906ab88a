use Rattle.std.proofs.Common.{take}
use Rattle.sk_nodes.specs.Repeats.{HaveSame}
use Rattle.sk_nodes.proofs.repeats.each_once.Given as goal

abbrev pub invariant-numbers : goal.invariant-numbers
invariant-numbers l = HaveSame (take l.number-index l.numbers) l.once.items
