use Rattle.std.proofs.Common.{[], sym, ◌∙◌}
use Rattle.sk_query.specs.Trees.{query_view}
use Rattle.sk_meaning.proofs.FitLaws.{made_fits}
use Rattle.sk_parser.proofs.SoundLemmas.{sound_of}
use Rattle.sk_parser.proofs.parsing.parse.Goals as goal

pub tree_in-requires : goal.tree_in-requires
tree_in-requires c = sound_of c.args.schema.now [] c.as_slice-list.result.now (sym c.fault_in.ensures ∙ c.in-None.is)

pub returns-clause-fits : goal.returns-clause-fits
returns-clause-fits c =
    made_fits c.args.schema.now c.args.join c.args.text.now _ c.as_slice-list.result.now (query_view c.in_ok-query-in-None.query) c.fields-fields.ensures.sound
    c.in_ok-found.ensures.value c.as_slice-list.ensures (sym c.fault_in.ensures ∙ c.in-None.is) c.in_ok-query-in-None.ensures
