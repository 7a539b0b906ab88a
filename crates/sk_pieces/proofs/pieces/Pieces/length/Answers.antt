-- The entries of all pieces are sorted.
use Rattle.std.proofs.Common.{List, ℕ, subst}
use Rattle.sk_sorted.specs.Entries.{AreSorted}
use Rattle.sk_sorted.specs.Runs.{flat}
use Rattle.sk_sorted.proofs.RunLaws.{AreRuns-sorted}
use Rattle.sk_pieces.proofs.pieces.Pieces.length.Goals as goal

pub returns-clause-sorted : goal.returns-clause-sorted
returns-clause-sorted g c = subst (λ (s : List (List (ℕ × g.row.T.Denot))). AreSorted (flat s)) c.self.view_is (AreRuns-sorted c.self.inside.pieces.items c.self.invariant.sound)
