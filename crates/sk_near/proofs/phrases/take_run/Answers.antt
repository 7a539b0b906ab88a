use Rattle.std.proofs.Common.{◌≡◌, ◌+◌, ◌-◌, ◌∙◌, ℕ, drop, get_or, sym, ap, Some, arith}
use Rattle.std.proofs.lemmas.Option.{slice_get-get_or}
use Rattle.sk_near.specs.Soonest.{first_from, soonest_end}
use Rattle.sk_near.proofs.SoonestLemmas.{first_at, place_fits}
use Rattle.sk_near.proofs.RunLemmas.{run_taken, run_none}
use Rattle.sk_near.proofs.phrases.take_run.Goals as goal

pub returns-then-positions-place-clause-value : goal.returns-then-positions-place-clause-value
returns-then-positions-place-clause-value g c =
    run_none c.positions-positions.result.now c.positions-positions.ensures.rising (g.P.Operands.places c.args.lists.now) (c.args.run_end - c.args.i - 1) c.args.bound c.place_of-place.result c.args.i c.place_of-place.ensures
    (omega (arith, c.if-positions-place.true, c.place_of-place.ensures.within)) (omega (arith, c.requires.some, c.requires.within))
    (λ j le less. c.requires.equal j le (omega (arith, less, c.requires.some)) ∙ sym c.positions-positions.ensures.value)

-- a position is not below its place
pub overflow_cast-marks-2 : goal.overflow_cast-marks-2
overflow_cast-marks-2 g c = omega (arith, place_fits c.positions-positions.result.now c.positions-positions.ensures.rising c.place_of-place.result (omega (arith, c.if-positions-place.false)), c.type_inv.positions c.place_of-place.result)

pub returns-clause-value : goal.returns-clause-value
returns-clause-value g c =
    let places = g.P.Operands.places c.args.lists.now in
    let others : ℕ = c.args.run_end - c.args.i - 1 in
    let to : c.args.i + others + 1 ≡ c.args.run_end = omega (arith, c.requires.some) in
    let past = c.if-positions-place.false in
    record {
      first = sym (ap (first_from c.args.bound) c.positions-positions.ensures.value) ∙ first_at c.args.bound c.positions-positions.result.now c.place_of-place.result c.positions-positions.ensures.rising c.place_of-place.ensures
          ∙ slice_get-get_or c.positions-positions.result.now c.place_of-place.result 0 (omega (arith, past)) ∙ ap Some (sym c.from.ensures);
      rest = run_taken c.positions-positions.result.now c.positions-positions.ensures.rising places others c.args.bound c.place_of-place.result c.args.i c.place_of-place.ensures
          (omega (arith, past)) (omega (arith, c.requires.some, c.requires.within)) (λ j le less. c.requires.equal j le (omega (arith, less, to)) ∙ sym c.positions-positions.ensures.value)
          ∙ ap (λ n. soonest_end (get_or c.positions-positions.result.now (c.place_of-place.result + others) 0 + 1) (drop n places)) to
          ∙ ap (λ n. soonest_end (n + 1) (drop c.args.run_end places)) (sym c.from-2.ensures);
    }
