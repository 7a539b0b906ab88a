use Rattle.std.proofs.Common.{◌≡◌, ◌+◌, length}
use Rattle.sk_shards.specs.Forests.{Stands, ahead, spent_by}
use Rattle.sk_query.specs.Trees.{query_view}
use Rattle.sk_shards.proofs.parts.Parts.find.Given as goal

abbrev pub invariant-turns : goal.invariant-turns
invariant-turns g l = Stands l.forest l.indexes l.fn.paging (query_view l.fn.query) × (l.steps ≡ l.fn.steps + spent_by l.forest)

abbrev pub decreases-turns : goal.decreases-turns
decreases-turns g l = length (ahead l.indexes l.forest)
