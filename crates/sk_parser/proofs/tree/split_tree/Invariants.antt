use Rattle.std.proofs.Common.{◌≡◌, ◌++◌, map}
use Rattle.sk_query.specs.Trees.{query_view}
use Rattle.sk_grammar.specs.Meaning.{xor_tree, split}
use Rattle.sk_parser.specs.Views.{parts_view, segments_view, border_test}
use Rattle.sk_parser.specs.declared.split.Border.TheVariants as Border
use Rattle.sk_parser.proofs.tree.split_tree.Given as goal

abbrev pub invariant-segments : goal.invariant-segments
invariant-segments l =
    map query_view l.queries.items ++ map (xor_tree l.join) (segments_view l.segment-iterator.rest.items)
    ≡ map (xor_tree l.join) (split (border_test Border.Or) (parts_view l.fn.parts.items))
