-- What is read at the id's place is what is found.
use Rattle.std.proofs.Common.{List, ℕ, sym, ap, subst, ◌∙◌}
use Rattle.sk_sorted.specs.Entries.{AreSorted, found}
use Rattle.sk_sorted.proofs.PlaceLaws.{found_at}
use Rattle.sk_pieces.proofs.piece.Piece.get.Goals as goal

pub returns-in-Some : goal.returns-in-Some
returns-in-Some g c =
    let list : List (ℕ × g.row.T.Denot) = c.as_slice-entries.result.now in
    let sound : AreSorted list = subst (λ (es : List (ℕ × g.row.T.Denot)). AreSorted es) (sym c.as_slice-entries.ensures.value) c.as_slice-entries.ensures.sound in
    sym (found_at 0 list c.args.id c.in-Some.at c.index-entries-at.result sound.rise c.in-Some.ensures) ∙ ap (found c.args.id) (c.as_slice-entries.ensures.value ∙ c.self.view_is)
