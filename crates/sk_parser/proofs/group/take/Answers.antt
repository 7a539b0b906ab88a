use Rattle.std.proofs.Common.{option_map, ap, refl}
use Rattle.sk_query.specs.Trees.{query_view}
use Rattle.sk_parser.specs.Views.{group_view}
use Rattle.sk_parser.proofs.MapLemmas.{pushed}
use Rattle.sk_parser.proofs.GroupLemmas.{other_field, same_field, none_left}
use Rattle.sk_parser.proofs.group.take.Goals as goal

pub returns-then-group-field : goal.returns-then-group-field
returns-then-group-field c = λ rest. other_field (group_view c.args.group) c.args.field (option_map query_view c.args.left) rest c.if-group-field.true

pub returns-in_ok-push-in-Some : goal.returns-in_ok-push-in-Some
returns-in_ok-push-in-Some c = λ rest.
    same_field (group_view c.args.group) c.args.field (option_map query_view c.args.left) (query_view c.in-Some.query) _ rest c.if-group-field.false
    (ap (option_map query_view) c.in-Some.is)
    (pushed query_view c.args.group.queries.items c.push.new.self.items c.in-Some.query (query_view c.in-Some.query) c.in_ok-push-in-Some.ensures.items refl)

pub returns-in-None : goal.returns-in-None
returns-in-None c = λ rest. none_left (group_view c.args.group) c.args.field (option_map query_view c.args.left) rest (ap (option_map query_view) c.in-None.is)
