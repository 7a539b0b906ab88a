-- A piece that has room keeps to its size.
use Rattle.std.proofs.Common.{List, ℕ, ◌≡◌, ◌<◌, ◌≤◌, ◌⊎◌, true, length, sym, subst}
use Rattle.sk_sorted.specs.Entries.{has}
use Rattle.sk_pieces.proofs.PieceLemmas.{length-room}
use Rattle.sk_pieces.proofs.piece.Piece.put.Goals as goal

pub invariant_of-self-2 : goal.invariant_of-self-2
invariant_of-self-2 g c =
    subst (λ (es : List (ℕ × g.row.T.Denot)). length es ≤ 128) (sym c.in_ok-put.ensures.ok)
    (length-room c.args.id c.args.x c.self.inside.entries c.length-sound.ensures.sound c.self.invariant
    (subst (λ (es : List (ℕ × g.row.T.Denot)). (has c.args.id es ≡ true) ⊎ (length es < 128)) (sym c.self.view_is) c.requires.room))
