use Rattle.std.proofs.Common.{◌≡◌, ◌∷◌, ◌++◌, map, subst}
use Rattle.sk_query.specs.Trees.{query_view}
use Rattle.sk_grammar.specs.Runs.{group_tree}
use Rattle.sk_parser.specs.Views.{group_view}
use Rattle.sk_parser.proofs.MapLemmas.{pushed, more_mapped}
use Rattle.sk_parser.proofs.group.filtered.Goals as goal

pub groups-preserved : goal.groups-preserved
groups-preserved c =
    let all = query_view c.args.base ∷ map group_tree (map group_view c.args.groups.items) in
    let made = map query_view c.groups.queries.items in
    more_mapped group_tree all made (map query_view c.push-in-groups.new.self.items) (group_view c.in-Some.group) (map group_view c.next.new.self.rest.items)
    (pushed query_view c.groups.queries.items c.push-in-groups.new.self.items c.joined.result (group_tree (group_view c.in-Some.group)) c.in_ok-push-2.ensures.items c.joined.ensures)
    (subst (λ gs. made ++ map group_tree (map group_view gs) ≡ all) c.in-Some.ensures.steps.0 c.groups.invariant)
