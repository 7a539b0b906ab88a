-- The rest of the list is in order, and its places are places of the list.
use Rattle.std.proofs.Common.{List, ℕ, ◌-◌, length, drop, sym, subst, arith}
use Rattle.std.proofs.lemmas.List.{length-take, length-drop}
use Rattle.sk_sorted.specs.Entries.{AreSorted}
use Rattle.sk_sorted.proofs.EntryLaws.{RiseAbove-drop, length_fits}
use Rattle.sk_pieces.proofs.PlaceLemmas.{RiseAbove-take}
use Rattle.sk_pieces.proofs.piece.Piece.place_from.Goals as goal

pub place_from-passed-requires : goal.place_from-passed-requires
place_from-passed-requires g c =
    let list : List (ℕ × g.row.T.Denot) = c.as_slice.result.now in
    let sound : AreSorted list = subst (λ (es : List (ℕ × g.row.T.Denot)). AreSorted es) (sym c.as_slice.ensures.value) c.as_slice.ensures.sound in
    RiseAbove-take 0 (length list - c.args.place) (drop c.args.place list) (RiseAbove-drop 0 c.args.place list sound.rise)

pub overflow_cast-result : goal.overflow_cast-result
overflow_cast-result g c =
    let list : List (ℕ × g.row.T.Denot) = c.as_slice.result.now in
    let sound : AreSorted list = subst (λ (es : List (ℕ × g.row.T.Denot)). AreSorted es) (sym c.as_slice.ensures.value) c.as_slice.ensures.sound in
    omega (arith, c.place_from-passed.ensures.within, length-take (length list - c.args.place) (drop c.args.place list), length-drop c.args.place list, length_fits list sound)

pub overflow_add-result : goal.overflow_add-result
overflow_add-result g c =
    let list : List (ℕ × g.row.T.Denot) = c.as_slice.result.now in
    let sound : AreSorted list = subst (λ (es : List (ℕ × g.row.T.Denot)). AreSorted es) (sym c.as_slice.ensures.value) c.as_slice.ensures.sound in
    omega (arith, c.place_from-passed.ensures.within, length-take (length list - c.args.place) (drop c.args.place list), length-drop c.args.place list, length_fits list sound)
