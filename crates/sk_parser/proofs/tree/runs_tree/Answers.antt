use Rattle.std.proofs.Common.{◌≡◌, ◌++◌, map, ap, subst}
use Rattle.sk_query.specs.Trees.{query_view}
use Rattle.sk_grammar.specs.Meaning.{Run, is_positive, run_trees}
use Rattle.sk_parser.specs.Views.{run_view}
use Rattle.sk_parser.proofs.TreeLemmas.{runs_more}
use Rattle.sk_parser.proofs.tree.runs_tree.Goals as goal

pub runs-preserved : goal.runs-preserved
runs-preserved c =
    let steps = ap (map run_view) c.in-Some.ensures.steps.0 in
    record {
      positive = runs_more c.args.join is_positive _ (map query_view c.runs.positive.items) (map query_view c.place.new.positive.items) (run_view c.in-Some.one) (map run_view c.next.new.self.rest.items) c.in_ok-place.ensures.positive
          (subst (λ rs. map query_view c.runs.positive.items ++ run_trees c.args.join is_positive rs ≡ run_trees c.args.join is_positive (map run_view c.args.runs.items)) steps c.runs.invariant.positive);
      negative = runs_more c.args.join Run.negative _ (map query_view c.runs.negative.items) (map query_view c.place.new.negative.items) (run_view c.in-Some.one) (map run_view c.next.new.self.rest.items) c.in_ok-place.ensures.negative
          (subst (λ rs. map query_view c.runs.negative.items ++ run_trees c.args.join Run.negative rs ≡ run_trees c.args.join Run.negative (map run_view c.args.runs.items)) steps c.runs.invariant.negative);
    }
