-- One before was the same.
use Rattle.std.proofs.Common.{◌<◌}
use Rattle.sk_query.specs.Trees.{query_view}
use Rattle.sk_tree.specs.Equal.{IsAsOne}
use Rattle.sk_tree.proofs.parts.run_from.Given as goal

abbrev pub invariant-parts : goal.invariant-parts
invariant-parts l = 1 < l.n → IsAsOne (query_view l.part)
