use Rattle.std.proofs.Common.{sym, ap, ◌∙◌, arith}
use Rattle.std.proofs.lemmas.Option.{slice_get_past, slice_get-get_or}
use Rattle.sk_near.specs.Soonest.{first_from}
use Rattle.sk_near.proofs.SoonestLemmas.{first_at, place_fits}
use Rattle.sk_near.proofs.operands.position_from.Goals as goal

pub returns-then-place-positions : goal.returns-then-place-positions
returns-then-place-positions g c =
    sym (ap (first_from c.args.bound) (sym c.positions-positions.ensures.value) ∙ first_at c.args.bound c.positions-positions.result.now c.place_of-place.result c.positions-positions.ensures.rising c.place_of-place.ensures
    ∙ slice_get_past c.positions-positions.result.now c.place_of-place.result (omega arith))

-- a position is not below its place
pub overflow_cast-marks-2 : goal.overflow_cast-marks-2
overflow_cast-marks-2 g c = omega (arith, place_fits c.positions-positions.result.now c.positions-positions.ensures.rising c.place_of-place.result (omega (arith, c.place_of-place.ensures.within)), c.type_inv.positions c.place_of-place.result)

pub returns : goal.returns
returns g c =
    sym (ap (first_from c.args.bound) (sym c.positions-positions.ensures.value) ∙ first_at c.args.bound c.positions-positions.result.now c.place_of-place.result c.positions-positions.ensures.rising c.place_of-place.ensures
    ∙ slice_get-get_or c.positions-positions.result.now c.place_of-place.result 0 (omega (arith, c.place_of-place.ensures.within)))
