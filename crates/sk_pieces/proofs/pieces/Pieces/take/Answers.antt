-- The piece at the place is where the value belongs; where all end before it, it is nowhere.
use Rattle.std.proofs.Common.{List, ℕ, ◌≡◌, length, sym, ap, arith}
use Rattle.sk_sorted.proofs.RunLaws.{fits_place}
use Rattle.sk_sorted.proofs.RunEditLaws.{nothing_found, nothing_without}
use Rattle.sk_pieces.proofs.pieces.Pieces.take.Goals as goal

pub returns-then-at-len-clause-after : goal.returns-then-at-len-clause-after
returns-then-at-len-clause-after g c =
    let same : length c.self.inside.pieces.items ≡ length c.args.self.now = ap (λ (s : List (List (ℕ × g.row.T.Denot))). length s) c.self.view_is in
    sym (nothing_without c.args.id c.args.self.now c.place-at.ensures.sound (λ k lt. c.place-at.ensures.before k (omega (arith, same))))

pub returns-then-at-len-clause-gone : goal.returns-then-at-len-clause-gone
returns-then-at-len-clause-gone g c =
    let same : length c.self.inside.pieces.items ≡ length c.args.self.now = ap (λ (s : List (List (ℕ × g.row.T.Denot))). length s) c.self.view_is in
    sym (nothing_found c.args.id c.args.self.now c.place-at.ensures.sound (λ k lt. c.place-at.ensures.before k (omega (arith, same))))

pub take_out-requires-clause-fits : goal.take_out-requires-clause-fits
take_out-requires-clause-fits g c =
    let same : length c.self.inside.pieces.items ≡ length c.args.self.now = ap (λ (s : List (List (ℕ × g.row.T.Denot))). length s) c.self.view_is in
    fits_place 0 c.args.id c.args.self.now c.place-at.result c.place-at.ensures.sound.rise (omega (arith, same)) c.place-at.ensures.before (c.place-at.ensures.at (omega (arith, same)))
