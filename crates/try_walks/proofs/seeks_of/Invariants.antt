use Rattle.std.proofs.Common.{◌≡◌, true}
use Rattle.sk_query.specs.Trees.{query_view}
use Rattle.sk_query.specs.Fits.{fits_tree}
use Rattle.try_walks.proofs.seeks_of.Given as goal

abbrev pub invariant-targets : goal.invariant-targets
invariant-targets g l = fits_tree (query_view l.query) ≡ true

abbrev pub invariant-needs : goal.invariant-needs
invariant-needs g l = fits_tree (query_view l.query) ≡ true

abbrev pub invariant-more : goal.invariant-more
invariant-more g l = fits_tree (query_view l.query) ≡ true
