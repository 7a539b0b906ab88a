-- There are fewer entries than ids.
use Rattle.std.proofs.Common.{arith}
use Rattle.sk_sorted.proofs.EntryLaws.{length_fits}
use Rattle.sk_sorted.proofs.sorted.Sorted.length.Goals as goal

pub overflow_cast-result : goal.overflow_cast-result
overflow_cast-result g c = omega (arith, length_fits c.self.inside.entries.items c.self.invariant, c.len.ensures, c.self.inside.entries.ok.0)
