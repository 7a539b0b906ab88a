use Rattle.std.proofs.Common.{drop}
use Rattle.serde_json.specs.View.{view}
use Rattle.sk_record.proofs.TakenLemmas.{Keeps}
use Rattle.sk_record.proofs.judge.entries_of.Given as goal

abbrev pub invariant-fields : goal.invariant-fields
invariant-fields l = Keeps l.fields (view l.initial.values) (drop l.place l.fields) l.place (view l.values) l.entries
