use Rattle.std.proofs.Common.{◌≡◌, true}
use Rattle.sk_query.specs.Trees.{query_view}
use Rattle.sk_query.specs.Fits.{fits_tree}
use Rattle.try_walks.proofs.rounds.sum_in.Given as goal

abbrev pub invariant-rounds : goal.invariant-rounds
invariant-rounds g l = fits_tree (query_view l.query) ≡ true
