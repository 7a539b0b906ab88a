use Rattle.std.proofs.Common.{◌≡◌, [], drop, fold}
use Rattle.sk_model.specs.Documents.{slot_values_from, with_value}
use Rattle.sk_docs.proofs.TakenLemmas.{Left}
use Rattle.sk_docs.proofs.slots.values.Given as goal

abbrev pub invariant-fields : goal.invariant-fields
invariant-fields l =
    Left l.place l.left l.given
    × (fold with_value l.made.items (slot_values_from l.place (drop l.place l.fields) l.given) ≡ fold with_value [] (slot_values_from 0 l.fields l.given))
