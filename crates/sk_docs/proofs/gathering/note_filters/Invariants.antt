use Rattle.std.proofs.Common.{◌≡◌, ◌++◌, drop}
use Rattle.sk_model.specs.Documents.{filter_terms_from}
use Rattle.sk_docs.proofs.TakenLemmas.{Left}
use Rattle.sk_docs.proofs.gathering.note_filters.Given as goal

abbrev pub invariant-fields : goal.invariant-fields
invariant-fields l =
    Left l.place l.left l.values
    × (l.gathered.mentions ++ filter_terms_from l.place (drop l.place l.fields) l.values ≡ l.initial.gathered.mentions ++ filter_terms_from 0 l.fields l.values)
