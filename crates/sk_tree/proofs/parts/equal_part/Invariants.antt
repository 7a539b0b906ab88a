-- Those before are the same.
use Rattle.std.proofs.Common.{◌<◌, drop}
use Rattle.sk_query.specs.Trees.{query_view, queries_view}
use Rattle.sk_tree.specs.Equal.{IsAsOne, AllAre}
use Rattle.sk_tree.proofs.parts.equal_part.Given as goal

abbrev pub invariant-parts : goal.invariant-parts
invariant-parts l = record {
  one : 0 < l.part-index → IsAsOne (query_view l.first);
  all : AllAre (query_view l.first) (queries_view (drop l.part-index l.parts)) → AllAre (query_view l.first) (queries_view l.parts);
}
