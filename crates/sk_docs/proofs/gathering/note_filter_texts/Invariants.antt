use Rattle.std.proofs.Common.{◌≡◌, ◌++◌, drop, map, filter}
use Rattle.sk_model.specs.Documents.{filter_term}
use Rattle.sk_base.specs.Terms.{is_given}
use Rattle.sk_docs.proofs.gathering.note_filter_texts.Given as goal

abbrev pub invariant-texts : goal.invariant-texts
invariant-texts l =
    l.gathered.mentions ++ map (filter_term l.prefix) (filter is_given (drop l.text-index l.texts))
    ≡ l.initial.gathered.mentions ++ map (filter_term l.prefix) (filter is_given l.texts)
