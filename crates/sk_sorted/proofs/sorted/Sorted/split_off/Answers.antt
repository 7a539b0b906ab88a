-- A front and the rest of sorted entries are sorted.
use Rattle.std.proofs.Common.{sym, subst}
use Rattle.sk_sorted.specs.Entries.{AreSorted}
use Rattle.sk_sorted.proofs.EntryLaws.{AreSorted-drop}
use Rattle.sk_sorted.proofs.EndLaws.{AreSorted-take}
use Rattle.sk_sorted.proofs.sorted.Sorted.split_off.Goals as goal

pub invariant_of-result : goal.invariant_of-result
invariant_of-result g c = subst AreSorted (sym c.in_ok-entries.ensures.tail) (AreSorted-drop c.args.at c.self.inside.entries.items c.self.invariant)

pub invariant_of-self-2 : goal.invariant_of-self-2
invariant_of-self-2 g c = subst AreSorted (sym c.in_ok-entries.ensures.items) (AreSorted-take c.args.at c.self.inside.entries.items c.self.invariant)
