-- The piece at the place is where the value belongs.
use Rattle.std.proofs.Common.{List, ℕ, ◌≡◌, length, sym, ap, ◌∙◌, arith}
use mathlib.Core.Bool.{true≢false}
use Rattle.sk_sorted.proofs.RunLaws.{fits_place}
use Rattle.sk_sorted.proofs.RunEditLaws.{has_run}
use Rattle.sk_pieces.proofs.pieces.Pieces.put.Goals as goal

pub put_in-requires-clause-fits : goal.put_in-requires-clause-fits
put_in-requires-clause-fits g c =
    let same : length c.self.inside.pieces.items ≡ length c.args.self.now = ap (λ (s : List (List (ℕ × g.row.T.Denot))). length s) c.self.view_is in
    fits_place 0 c.args.id c.args.self.now c.place-at.result c.place-at.ensures.sound.rise (omega (arith, same)) c.place-at.ensures.before (c.place-at.ensures.at (omega (arith, same)))

pub put_in_half-requires-clause-fits : goal.put_in_half-requires-clause-fits
put_in_half-requires-clause-fits g c =
    let same : length c.self.inside.pieces.items ≡ length c.args.self.now = ap (λ (s : List (List (ℕ × g.row.T.Denot))). length s) c.self.view_is in
    fits_place 0 c.args.id c.args.self.now c.place-at.result c.place-at.ensures.sound.rise (omega (arith, same)) c.place-at.ensures.before (c.place-at.ensures.at (omega (arith, same)))

pub returns-in_err-put_in_half-clause-succeeds : goal.returns-in_err-put_in_half-clause-succeeds
returns-in_err-put_in_half-clause-succeeds g c there =
    let same : length c.self.inside.pieces.items ≡ length c.args.self.now = ap (λ (s : List (List (ℕ × g.row.T.Denot))). length s) c.self.view_is in
    let fits = fits_place 0 c.args.id c.args.self.now c.place-at.result c.place-at.ensures.sound.rise (omega (arith, same)) c.place-at.ensures.before (c.place-at.ensures.at (omega (arith, same))) in
    let whole = has_run c.args.id c.place-at.result c.self.inside.pieces.items c.args.self.now c.self.view_is c.self.invariant.sound (omega (arith, same)) fits c.index-else-count-lt-FULL.result.now c.index-else-count-lt-FULL.ensures in
    absurd (true≢false (sym (c.has.ensures ∙ whole ∙ there) ∙ c.if-has.false))
