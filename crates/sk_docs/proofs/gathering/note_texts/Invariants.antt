use Rattle.std.proofs.Common.{drop}
use Rattle.sk_docs.proofs.GatherLemmas.{InFields}
use Rattle.sk_docs.proofs.TakenLemmas.{Left}
use Rattle.sk_docs.proofs.gathering.note_texts.Given as goal

abbrev pub invariant-fields : goal.invariant-fields
invariant-fields l = Left l.place l.left l.values × InFields l.values l.initial.gathered l.gathered l.place l.before (drop l.place l.fields) l.fields
