use Rattle.std.proofs.Common.{◌≡◌, ◌+◌, length}
use Rattle.sk_query.specs.Trees.{query_view}
use Rattle.sk_tree.specs.Built.{left}
use Rattle.sk_facets.specs.Counts.{IsCounting}
use Rattle.sk_facets.proofs.counting.count.Given as goal

-- the matches that the tree went past are counted, and so are the readings
abbrev pub invariant-matches : goal.invariant-matches
invariant-matches g l = IsCounting l.index (query_view l.query) l.slot l.tree l.tally × (l.steps ≡ l.fn.steps + (l.tree.spent + l.tally.matches))

abbrev pub decreases-matches : goal.decreases-matches
decreases-matches g l = length (left l.index l.tree)
