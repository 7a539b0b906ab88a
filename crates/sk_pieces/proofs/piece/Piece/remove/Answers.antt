-- A removal leaves no more entries.
use Rattle.std.proofs.Common.{List, ℕ, ◌≤◌, length, ap, arith}
use Rattle.sk_sorted.proofs.EndLaws.{length-without}
use Rattle.sk_pieces.proofs.piece.Piece.remove.Goals as goal

pub invariant_of-self : goal.invariant_of-self
invariant_of-self g c =
    let few : length c.self.inside.entries ≤ 128 = c.self.invariant in
    omega (arith, ap (λ (es : List (ℕ × g.row.T.Denot)). length es) c.remove.ensures.after, length-without c.args.id c.self.inside.entries, few)
