use Rattle.std.proofs.Common.{◌≡◌, ◌++◌, map, subst}
use Rattle.sk_query.specs.Trees.{query_view}
use Rattle.sk_grammar.specs.Meaning.{xor_tree, split}
use Rattle.sk_parser.specs.Views.{parts_view, segment_view, segments_view, border_test}
use Rattle.sk_parser.specs.declared.split.Border.TheVariants as Border
use Rattle.sk_parser.proofs.MapLemmas.{pushed, more_mapped}
use Rattle.sk_parser.proofs.tree.split_tree.Goals as goal

pub segments-preserved : goal.segments-preserved
segments-preserved c =
    let make = xor_tree c.args.join in
    let all = map make (split (border_test Border.Or) (parts_view c.args.parts.items)) in
    let made = map query_view c.segments.queries.items in
    more_mapped make all made (map query_view c.push.new.self.items) (segment_view c.in-Some.segment) (segments_view c.next.new.self.rest.items)
    (pushed query_view c.segments.queries.items c.push.new.self.items c.in_ok-xor_tree.field-0 (make (segment_view c.in-Some.segment)) c.in_ok-push.ensures.items c.in_ok-xor_tree.ensures)
    (subst (λ vs. made ++ map make (segments_view vs) ≡ all) c.in-Some.ensures.steps.0 c.segments.invariant)
