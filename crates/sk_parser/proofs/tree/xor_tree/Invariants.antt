use Rattle.std.proofs.Common.{◌≡◌, ◌++◌, map}
use Rattle.sk_query.specs.Trees.{query_view}
use Rattle.sk_grammar.specs.Meaning.{and_tree, split}
use Rattle.sk_parser.specs.Views.{parts_view, segments_view, border_test}
use Rattle.sk_parser.specs.declared.split.Border.TheVariants as Border
use Rattle.sk_parser.proofs.tree.xor_tree.Given as goal

abbrev pub invariant-segments : goal.invariant-segments
invariant-segments l =
    map query_view l.queries.items ++ map (and_tree l.join) (segments_view l.segment-iterator.rest.items)
    ≡ map (and_tree l.join) (split (border_test Border.Xor) (parts_view l.fn.parts.items))
