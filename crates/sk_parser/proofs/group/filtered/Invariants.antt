use Rattle.std.proofs.Common.{◌≡◌, ◌∷◌, ◌++◌, map}
use Rattle.sk_query.specs.Trees.{query_view}
use Rattle.sk_grammar.specs.Runs.{group_tree}
use Rattle.sk_parser.specs.Views.{group_view}
use Rattle.sk_parser.proofs.group.filtered.Given as goal

abbrev pub invariant-groups : goal.invariant-groups
invariant-groups l =
    map query_view l.queries.items ++ map group_tree (map group_view l.group-iterator.rest.items)
    ≡ query_view l.fn.base ∷ map group_tree (map group_view l.fn.groups.items)
