use Rattle.std.proofs.Common.{◌≡◌, length}
use Rattle.std.specs.Vec.Iter.{into_iter_items, into_iter_len}
use Rattle.sk_docs.proofs.GatherLemmas.{InText}
use Rattle.sk_docs.proofs.gathering.note_text.Given as goal

abbrev pub invariant-words : goal.invariant-words
invariant-words l =
    InText l.prefix l.step l.before l.initial.gathered l.gathered (into_iter_items l.word-iterator) (into_iter_items l.initial.word-iterator)
    × (into_iter_len l.word-iterator ≡ length (into_iter_items l.word-iterator))
