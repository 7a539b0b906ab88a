-- The pieces up to a place's own are behind the front of the next one.
use Rattle.std.proofs.Common.{length, ap, ◌∙◌, arith}
use Rattle.sk_sorted.proofs.EntryLaws.{length_fits}
use Rattle.sk_sorted.specs.Runs.{flat}
use Rattle.sk_sorted.proofs.RunLaws.{AreRuns-sorted}
use Rattle.sk_sorted.proofs.RunEditLaws.{run_read}
use Rattle.sk_values.specs.SlotValues.{SlotValues}
use Rattle.sk_values.proofs.CursorLemmas.{next_front, next_counts}
use Rattle.sk_values.proofs.range_cursor.next_front.Goals as goal

pub overflow_add-result-2 : goal.overflow_add-result-2
overflow_add-result-2 c =
    let run = run_read c.pieces.result.now c.args.list.now c.args.place.piece c.index-pieces-place.result c.pieces.ensures.value c.index-pieces-place.is c.requires.there in
    let counts = next_counts c.args.list.now c.args.place.piece c.args.place.read c.args.place.passed c.requires.there c.requires.at c.count-count.result (c.count-count.ensures.value ∙ ap (λ (es : SlotValues). length es) run) in
    omega (arith, counts, length_fits (flat c.args.list.now) (AreRuns-sorted c.args.list.now c.pieces.ensures.sound))

pub returns-clause-at : goal.returns-clause-at
returns-clause-at c =
    let run = run_read c.pieces.result.now c.args.list.now c.args.place.piece c.index-pieces-place.result c.pieces.ensures.value c.index-pieces-place.is c.requires.there in
    next_front c.args.list.now c.args.place.piece c.args.place.read c.args.place.passed c.requires.there c.requires.at c.count-count.result (c.count-count.ensures.value ∙ ap (λ (es : SlotValues). length es) run)

pub returns-clause-behind : goal.returns-clause-behind
returns-clause-behind c =
    let run = run_read c.pieces.result.now c.args.list.now c.args.place.piece c.index-pieces-place.result c.pieces.ensures.value c.index-pieces-place.is c.requires.there in
    omega (arith, c.count-count.ensures.value ∙ ap (λ (es : SlotValues). length es) run)
