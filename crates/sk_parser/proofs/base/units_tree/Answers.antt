use Rattle.std.proofs.Common.{◌≡◌, ◌++◌, [], map, ap, ◌∙◌, subst}
use Rattle.sk_query.specs.Trees.{query_view}
use Rattle.sk_grammar.specs.Runs.{is_hated, queries_of, groups_after}
use Rattle.sk_parser.specs.Base.{leads, follows}
use Rattle.sk_parser.specs.Views.{unit_view, group_view}
use Rattle.sk_parser.proofs.TreeLemmas.{units_more}
use Rattle.sk_parser.proofs.base.units_tree.Goals as goal

pub units-preserved : goal.units-preserved
units-preserved c =
    let steps = ap (map unit_view) c.in-Some.ensures.steps.0 in
    record {
      loved = units_more (leads c.args.join) _ (map query_view c.units.loved.items) (map query_view c.place.new.loved.items) (unit_view c.in-Some.unit) (map unit_view c.next.new.self.rest.items) c.in_ok-place.ensures.loved
          (subst (λ us. map query_view c.units.loved.items ++ queries_of (leads c.args.join) us ≡ queries_of (leads c.args.join) (map unit_view c.args.units.items)) steps c.units.invariant.loved);
      plain = units_more (follows c.args.join) _ (map query_view c.units.plain.items) (map query_view c.place.new.plain.items) (unit_view c.in-Some.unit) (map unit_view c.next.new.self.rest.items) c.in_ok-place.ensures.plain
          (subst (λ us. map query_view c.units.plain.items ++ queries_of (follows c.args.join) us ≡ queries_of (follows c.args.join) (map unit_view c.args.units.items)) steps c.units.invariant.plain);
      hated = units_more is_hated _ (map query_view c.units.hated.items) (map query_view c.place.new.hated.items) (unit_view c.in-Some.unit) (map unit_view c.next.new.self.rest.items) c.in_ok-place.ensures.hated
          (subst (λ us. map query_view c.units.hated.items ++ queries_of is_hated us ≡ queries_of is_hated (map unit_view c.args.units.items)) steps c.units.invariant.hated);
      groups = ap (λ gs. groups_after gs (map unit_view c.next.new.self.rest.items)) c.in_ok-place.ensures.groups
          ∙ subst (λ us. groups_after (map group_view c.units.groups.items) us ≡ groups_after [] (map unit_view c.args.units.items)) steps c.units.invariant.groups;
    }
