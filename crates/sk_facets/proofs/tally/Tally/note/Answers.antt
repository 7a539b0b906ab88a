use Rattle.std.proofs.Common.{refl, sym}
use Rattle.sk_facets.proofs.TallyLemmas.{saw_one, if_ok}
use Rattle.sk_facets.proofs.tally.Tally.note.Goals as goal

pub returns : goal.returns
returns c = record {
  knows = if_ok c.add_one.result _ _
      (λ done more. saw_one c.args.self.now _ c.args.value.now (sym c.if-is_empty.ensures) refl refl more) c.add_one.ensures.tallied;
}
