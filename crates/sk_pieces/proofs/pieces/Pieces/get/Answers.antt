-- What is found is found in the piece where the id belongs, and nowhere where all end before it.
use Rattle.std.proofs.Common.{List, ℕ, ◌≡◌, ◌<◌, length, sym, ap, ◌∙◌, arith}
use Rattle.sk_sorted.proofs.RunLaws.{fits_place}
use Rattle.sk_sorted.proofs.RunEditLaws.{nothing_found, found_run}
use Rattle.sk_pieces.proofs.pieces.Pieces.get.Goals as goal

pub returns-then-at-len : goal.returns-then-at-len
returns-then-at-len g c =
    let same : length c.self.inside.pieces.items ≡ length c.args.self.now = ap (λ (s : List (List (ℕ × g.row.T.Denot))). length s) c.self.view_is in
    sym (nothing_found c.args.id c.args.self.now c.place-at.ensures.sound (λ k lt. c.place-at.ensures.before k (omega (arith, same))))

pub returns : goal.returns
returns g c =
    let same : length c.self.inside.pieces.items ≡ length c.args.self.now = ap (λ (s : List (List (ℕ × g.row.T.Denot))). length s) c.self.view_is in
    let there : c.place-at.result < length c.args.self.now = omega (arith, same) in
    let fits = fits_place 0 c.args.id c.args.self.now c.place-at.result c.place-at.ensures.sound.rise there c.place-at.ensures.before (c.place-at.ensures.at there) in
    c.get.ensures ∙ found_run c.args.id c.place-at.result c.self.inside.pieces.items c.args.self.now c.self.view_is c.self.invariant.sound there fits c.index.result.now c.index.ensures
