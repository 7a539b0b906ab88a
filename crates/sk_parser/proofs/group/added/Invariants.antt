use Rattle.std.proofs.Common.{◌≡◌, ◌++◌, map, option_map}
use Rattle.sk_query.specs.Trees.{query_view}
use Rattle.sk_grammar.specs.Runs.{added}
use Rattle.sk_parser.specs.Views.{group_view, added_or}
use Rattle.sk_parser.proofs.group.added.Given as goal

abbrev pub invariant-groups : goal.invariant-groups
invariant-groups l =
    map group_view l.made.items ++ added_or l.field (option_map query_view l.left) (map group_view l.group-iterator.rest.items)
    ≡ added l.field (query_view l.fn.query) (map group_view l.fn.groups.items)
