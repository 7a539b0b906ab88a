use Rattle.std.proofs.Common.{◌≡◌, ◌++◌, [], map}
use Rattle.sk_query.specs.Trees.{query_view}
use Rattle.sk_grammar.specs.Runs.{is_hated, queries_of, groups_after}
use Rattle.sk_parser.specs.Base.{leads, follows}
use Rattle.sk_parser.specs.Views.{unit_view, group_view}
use Rattle.sk_parser.proofs.base.units_tree.Given as goal

abbrev pub invariant-units : goal.invariant-units
invariant-units l = record {
  loved : map query_view l.loved.items ++ queries_of (leads l.join) (map unit_view l.unit-iterator.rest.items) ≡ queries_of (leads l.join) (map unit_view l.fn.units.items);
  plain : map query_view l.plain.items ++ queries_of (follows l.join) (map unit_view l.unit-iterator.rest.items) ≡ queries_of (follows l.join) (map unit_view l.fn.units.items);
  hated : map query_view l.hated.items ++ queries_of is_hated (map unit_view l.unit-iterator.rest.items) ≡ queries_of is_hated (map unit_view l.fn.units.items);
  groups : groups_after (map group_view l.groups.items) (map unit_view l.unit-iterator.rest.items) ≡ groups_after [] (map unit_view l.fn.units.items);
}
