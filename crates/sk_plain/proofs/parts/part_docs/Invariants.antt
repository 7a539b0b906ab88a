use Rattle.sk_sorted.specs.Joined.{part_in}
use Rattle.sk_plain.proofs.PartLemmas.{Gathers}
use Rattle.sk_plain.proofs.parts.part_docs.Given as goal

abbrev pub invariant-docs : goal.invariant-docs
invariant-docs l = Gathers l.parts l.part l.own.entries l.id-iterator (part_in l.parts l.part l.docs.entries)
