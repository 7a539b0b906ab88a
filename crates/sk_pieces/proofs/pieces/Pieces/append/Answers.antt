-- A value behind all others is new, and stands last.
use Rattle.std.proofs.Common.{List, ℕ, ◌≡◌, [], ◌∷◌, ◌++◌, length, ap, ◌∙◌, arith}
use Rattle.sk_sorted.proofs.RunLaws.{fits_last}
use Rattle.sk_sorted.proofs.RunEditLaws.{is_new, longer_put, longer_sound, longer_length, longer_fits}
use Rattle.sk_pieces.proofs.pieces.Pieces.append.Goals as goal

pub put_in-requires-clause-fits : goal.put_in-requires-clause-fits
put_in-requires-clause-fits g c =
    let same : length c.self.inside.pieces.items ≡ length c.args.self.now = ap (λ (s : List (List (ℕ × g.row.T.Denot))). length s) c.self.view_is in
    fits_last c.args.id c.args.self.now _ (omega (arith, same)) (λ k lt. c.requires.behind k (omega (arith, same)))

pub returns-then-count-lt-FULL-clause-new : goal.returns-then-count-lt-FULL-clause-new
returns-then-count-lt-FULL-clause-new g c = is_new c.args.id c.args.x c.self.inside.pieces.items c.args.self.now c.self.view_is c.self.invariant.sound c.requires.behind

pub returns-in_err-reserve-clause-new : goal.returns-in_err-reserve-clause-new
returns-in_err-reserve-clause-new g c = is_new c.args.id c.args.x c.self.inside.pieces.items c.args.self.now c.self.view_is c.self.invariant.sound c.requires.behind

pub returns-in_err-piece-clause-new : goal.returns-in_err-piece-clause-new
returns-in_err-piece-clause-new g c = is_new c.args.id c.args.x c.self.inside.pieces.items c.args.self.now c.self.view_is c.self.invariant.sound c.requires.behind

pub overflow_add-self : goal.overflow_add-self
overflow_add-self g c =
    omega (
      arith,
      c.self.invariant.count_is,
      longer_fits c.args.id c.args.x c.self.inside.pieces.items c.args.self.now c.self.view_is c.self.invariant.sound c.requires.behind c.push_reserved.new.self.items c.in_ok-piece.piece c.in_ok-piece.ensures
          (c.push_reserved.ensures.items ∙ ap (λ (s : List (List (ℕ × g.row.T.Denot))). s ++ c.in_ok-piece.piece ∷ []) c.in_ok-reserve.ensures.items) c.requires.id c.ranges.id.fits,
    )

pub invariant_of-self-2 : goal.invariant_of-self-2
invariant_of-self-2 g c =
    let made = c.push_reserved.ensures.items ∙ ap (λ (s : List (List (ℕ × g.row.T.Denot))). s ++ c.in_ok-piece.piece ∷ []) c.in_ok-reserve.ensures.items in
    record {
      sound = longer_sound c.args.id c.args.x c.self.inside.pieces.items c.args.self.now c.self.view_is c.self.invariant.sound c.requires.behind c.push_reserved.new.self.items c.in_ok-piece.piece c.in_ok-piece.ensures made c.requires.id c.ranges.id.fits;
      count_is = omega (arith, c.self.invariant.count_is, longer_length c.args.id c.args.x c.self.inside.pieces.items c.args.self.now c.self.view_is c.self.invariant.sound c.requires.behind c.push_reserved.new.self.items c.in_ok-piece.piece c.in_ok-piece.ensures made);
    }

pub returns-clause-ok : goal.returns-clause-ok
returns-clause-ok g c =
    longer_put c.args.id c.args.x c.self.inside.pieces.items c.args.self.now c.self.view_is c.self.invariant.sound c.requires.behind c.push_reserved.new.self.items c.in_ok-piece.piece c.in_ok-piece.ensures
    (c.push_reserved.ensures.items ∙ ap (λ (s : List (List (ℕ × g.row.T.Denot))). s ++ c.in_ok-piece.piece ∷ []) c.in_ok-reserve.ensures.items)

pub returns-clause-new : goal.returns-clause-new
returns-clause-new g c = is_new c.args.id c.args.x c.self.inside.pieces.items c.args.self.now c.self.view_is c.self.invariant.sound c.requires.behind
