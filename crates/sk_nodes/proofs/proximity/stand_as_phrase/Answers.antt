-- Equal numbers are those of equal terms.
use Rattle.std.proofs.Common.{sym, subst}
use Rattle.sk_nodes.specs.Repeats.{AreRunEnds}
use Rattle.sk_nodes.proofs.RepeatLaws.{ends_placed}
use Rattle.sk_nodes.proofs.proximity.stand_as_phrase.Goals as goal

pub returns-in_default-clause-value : goal.returns-in_default-clause-value
returns-in_default-clause-value g c = sym (c.phrase_places.ensures.fails c.in_default.is)

pub new-requires : goal.new-requires
new-requires g c = subst (AreRunEnds c.args.ends.now) (sym c.in-Some.ensures.value) (ends_placed _ c.args.ends.now c.args.numbers.now c.requires.ends)
