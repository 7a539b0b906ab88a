use Rattle.std.proofs.Common.{◌≡◌, ◌++◌, length}
use Rattle.std.specs.Vec.Iter.{into_iter_items, into_iter_len}
use Rattle.sk_model.specs.Documents.{terms_of}
use Rattle.sk_docs.proofs.mentions.join_all.Given as goal

abbrev pub invariant-mentions : goal.invariant-mentions
invariant-mentions l =
    (l.terms.items ≡ terms_of l.yielded)
    × (l.yielded ++ into_iter_items l.mention-iterator ≡ into_iter_items l.initial.mention-iterator)
    × (into_iter_len l.mention-iterator ≡ length (into_iter_items l.mention-iterator))
