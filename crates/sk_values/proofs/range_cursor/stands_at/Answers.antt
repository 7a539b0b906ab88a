use Rattle.std.proofs.Common.{◌≡◌, ◌<◌, ◌≤◌, [], length, get_or, refl, ap, ◌∙◌, arith}
use Rattle.std.proofs.lemmas.Bool.{leb-true}
use Rattle.sk_sorted.specs.Places.{id_at}
use Rattle.sk_sorted.proofs.PlaceLaws.{id_at-get_or}
use Rattle.sk_sorted.proofs.RunEditLaws.{run_read}
use Rattle.sk_values.specs.SlotValues.{SlotValues}
use Rattle.sk_values.proofs.CursorLemmas.{next_reaches}
use Rattle.sk_values.proofs.range_cursor.stands_at.Goals as goal

pub returns-then-next-entries : goal.returns-then-next-entries
returns-then-next-entries c e =
    let entries : SlotValues = c.as_slice-entries.result.now in
    let lt : c.args.place.piece < length c.args.pieces.now = omega (arith, c.requires.bound, c.if-place-pieces.false) in
    let run : c.as_slice-entries.result.now ≡ get_or c.args.pieces.now c.args.place.piece []
    = c.as_slice-entries.ensures.value ∙ run_read c.args.pieces.now c.args.pieces.now c.args.place.piece c.index-pieces-place.result refl c.index-pieces-place.is lt in
    let id : (get_or entries c.args.place.read c.index-entries-next.result).0 ≡ id_at entries c.args.place.read = id_at-get_or entries c.args.place.read c.index-entries-next.result c.if-next-entries.true in
    let reaches : c.args.target ≤ (get_or entries c.args.place.read c.index-entries-next.result).0 = leb-true c.args.target (get_or entries c.args.place.read c.index-entries-next.result).0 e in
    next_reaches c.args.pieces.now c.args.place.piece c.args.place.read c.args.place.passed c.args.target lt c.requires
    (omega (arith, c.if-next-entries.true, ap (λ (es : SlotValues). length es) run))
    (omega (arith, reaches, id, ap (λ (es : SlotValues). id_at es c.args.place.read) run))
