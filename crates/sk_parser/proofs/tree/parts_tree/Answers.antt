use Rattle.std.proofs.Common.{◌≡◌, IfOk, ap, sym, ◌∙◌, subst}
use Rattle.std.specs.List.{list_any}
use Rattle.sk_query.specs.Trees.{query_view}
use Rattle.sk_parser.specs.Views.{part_view, splits}
use Rattle.sk_parser.proofs.UnsplitLemmas.{unsplit}
use Rattle.sk_parser.proofs.tree.parts_tree.Goals as goal

pub returns-else-has_operator : goal.returns-else-has_operator
returns-else-has_operator c =
    subst (λ tree. IfOk c.run_tree.result (λ q. query_view q ≡ tree))
    (unsplit c.args.join c.args.parts.items (ap (list_any (λ p. splits (part_view p))) (sym c.as_slice.ensures.value) ∙ sym c.has_operator.ensures ∙ c.if-has_operator.false))
    c.run_tree.ensures
