use Rattle.std.proofs.Common.{arith}
use Rattle.sk_query.specs.Trees.{query_view}
use Rattle.sk_query_json.proofs.RoundTrip.{twice_as_deep}
use Rattle.sk_query_json.proofs.ValueLemmas.{text_is, text_reads_back}
use Rattle.sk_query_json.proofs.compact.text.Goals as goal

pub returns-clause-text : goal.returns-clause-text
returns-clause-text c = text_is c.to_string.result _ (query_view c.args.query.now) c.in_ok-value.ensures.value c.to_string.ensures.text

pub returns-clause-reads_back : goal.returns-clause-reads_back
returns-clause-reads_back c = text_reads_back c.to_string.result _ (query_view c.args.query.now) c.in_ok-value.ensures.value c.to_string.ensures.reads_back

pub returns-clause-shallow : goal.returns-clause-shallow
returns-clause-shallow c = λ fits flat.
    let h = twice_as_deep (query_view c.args.query.now) in
    text_reads_back c.to_string.result _ (query_view c.args.query.now) c.in_ok-value.ensures.value c.to_string.ensures.reads_back fits (omega arith)
