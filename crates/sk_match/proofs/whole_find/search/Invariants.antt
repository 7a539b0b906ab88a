use Rattle.std.proofs.Common.{◌≡◌, ◌+◌, length}
use Rattle.sk_query.specs.Trees.{query_view}
use Rattle.sk_match.specs.Searches.{Stands, ahead, spent_by}
use Rattle.sk_match.proofs.whole_find.search.Given as goal

abbrev pub invariant-turns : goal.invariant-turns
invariant-turns g l = Stands l.search l.index l.paging (query_view l.query) × (l.steps ≡ l.fn.steps + spent_by l.search)

abbrev pub decreases-turns : goal.decreases-turns
decreases-turns g l = length (ahead l.index l.search)
