use Rattle.std.proofs.Common.{◌≡◌, ◌++◌, map}
use Rattle.sk_query.specs.Trees.{query_view}
use Rattle.sk_grammar.specs.Meaning.{Run, is_positive, run_trees}
use Rattle.sk_parser.specs.Views.{run_view}
use Rattle.sk_parser.proofs.tree.runs_tree.Given as goal

abbrev pub invariant-runs : goal.invariant-runs
invariant-runs l = record {
  positive : map query_view l.positive.items ++ run_trees l.join is_positive (map run_view l.one-iterator.rest.items) ≡ run_trees l.join is_positive (map run_view l.fn.runs.items);
  negative : map query_view l.negative.items ++ run_trees l.join Run.negative (map run_view l.one-iterator.rest.items) ≡ run_trees l.join Run.negative (map run_view l.fn.runs.items);
}
