use Rattle.std.proofs.Common.{arith, rules}
use Rattle.sk_query.specs.Trees.{query_view}
use Rattle.sk_plain.proofs.ReportLemmas.{few_found, few_kept}
use Rattle.sk_sharp.proofs.reports.report_of.Goals as goal

pub hits_of-requires-clause-few : goal.hits_of-requires-clause-few
hits_of-requires-clause-few c =
    few_found (query_view c.args.query.now) c.args.paging.now c.args.docs.now.entries c.as_slice-3.result.now (search rules) c.requires.few

pub overflow_cast-count : goal.overflow_cast-count
overflow_cast-count c =
    omega (
      arith,
      c.len-count.ensures,
      few_kept c.args.paging.now c.args.docs.now.entries c.as_slice-3.result.now c.in_ok-kept.kept.items (search rules)
          (few_found (query_view c.args.query.now) c.args.paging.now c.args.docs.now.entries c.as_slice-3.result.now (search rules) c.requires.few),
    )
