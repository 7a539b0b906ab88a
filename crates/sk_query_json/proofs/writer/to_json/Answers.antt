use Rattle.sk_query.specs.Trees.{query_view}
use Rattle.sk_query_json.proofs.ValueLemmas.{value_reads_back}
use Rattle.sk_query_json.proofs.writer.to_json.Goals as goal

pub returns-clause-reads_back : goal.returns-clause-reads_back
returns-clause-reads_back c = λ fits. value_reads_back c.json_of.result (query_view c.args.query.now) c.json_of.ensures fits
