-- Behind a piece that the place is not in, the place stands at the front of the next or behind that.
use Rattle.std.proofs.Common.{◌≡◌, ◌+◌, ◌-◌, [], length, get_or, ap, subst, ◌∙◌, arith}
use Rattle.std.proofs.lemmas.List.{get_or_default}
use Rattle.sk_sorted.specs.Runs.{IsPlace}
use Rattle.sk_sorted.proofs.RunPlaceLaws.{place_next}
use Rattle.sk_values.proofs.CursorLemmas.{piece_there}
use Rattle.sk_values.proofs.slot_list.piece_at.Goals as goal

pub pieces-preserved : goal.pieces-preserved
pieces-preserved c =
    let lt = piece_there c.args.pieces.now c.pieces.at c.pieces.passed c.args.i c.pieces.invariant.place c.pieces.invariant.before c.requires in
    let first : length c.index-pieces-at.result ≡ length (get_or c.args.pieces.now c.pieces.at []) = ap length (c.index-pieces-at.is ∙ get_or_default c.args.pieces.now c.pieces.at c.index-pieces-at.result [] lt) in
    let here : length c.index-pieces-at-in-pieces.result ≡ length (get_or c.args.pieces.now c.pieces.at [])
    = ap length (c.index-pieces-at-in-pieces.is ∙ get_or_default c.args.pieces.now c.pieces.at c.index-pieces-at-in-pieces.result [] lt) in
    let more : c.pieces.passed + (length (get_or c.args.pieces.now c.pieces.at []) - 0) ≡ c.pieces.passed + c.count-passed.result = omega (arith, here, c.count-passed.ensures.value) in
    record {
      place = subst (λ n. IsPlace c.args.pieces.now (c.pieces.at + 1) 0 n) more (place_next c.args.pieces.now c.pieces.at 0 c.pieces.passed lt c.pieces.invariant.place);
      before = omega (arith, c.pieces-test.true, c.pieces.invariant.before, c.count.ensures.value, c.count-passed.ensures.value, first, here);
    }
