use Rattle.std.proofs.Common.{◌≡◌, ◌++◌, map, option_map, refl, subst}
use Rattle.sk_query.specs.Trees.{query_view}
use Rattle.sk_grammar.specs.Runs.{added}
use Rattle.sk_parser.specs.Views.{group_view, added_or}
use Rattle.sk_parser.proofs.MapLemmas.{pushed}
use Rattle.sk_parser.proofs.GroupLemmas.{taken}
use Rattle.sk_parser.proofs.group.added.Goals as goal

pub groups-preserved : goal.groups-preserved
groups-preserved c =
    let f = c.args.field in
    let all = added f (query_view c.args.query) (map group_view c.args.groups.items) in
    let made = map group_view c.groups.made.items in
    let left = option_map query_view c.groups.left in
    let rest = map group_view c.next.new.self.rest.items in
    taken all made (map group_view c.push.new.self.items) (group_view c.in-Some.group) (group_view c.in_ok-group.group) f left (option_map query_view c.in_ok-group.rest) rest
    (pushed group_view c.groups.made.items c.push.new.self.items c.in_ok-group.group (group_view c.in_ok-group.group) c.in_ok-push.ensures.items refl)
    (c.in_ok-group.ensures rest)
    (subst (λ gs. made ++ added_or f left (map group_view gs) ≡ all) c.in-Some.ensures.steps.0 c.groups.invariant)
