-- Each piece before that of the target is passed over whole; that one has the place.
use Rattle.std.proofs.Common.{◌≡◌, ◌+◌, ◌-◌, ◌<◌, ◌≤◌, [], length, get_or, ap, sym, subst, ◌∙◌, arith}
use Rattle.sk_sorted.specs.Ends.{EndsRise}
use Rattle.sk_sorted.proofs.ReachLaws.{runs_rise}
use Rattle.sk_sorted.specs.Entries.{top_id}
use Rattle.sk_sorted.proofs.EntryLaws.{length_fits}
use Rattle.sk_sorted.specs.Runs.{flat}
use Rattle.sk_sorted.proofs.RunEditLaws.{run_read}
use Rattle.sk_sorted.proofs.RunPlaceLaws.{place_within}
use Rattle.sk_values.specs.SlotValues.{SlotRuns}
use Rattle.sk_values.proofs.CursorLemmas.{found_here, passed_by, passes_on}
use Rattle.sk_values.proofs.range_cursor.place_from.Goals as goal

pub first_reaching-at-requires-clause-rise : goal.first_reaching-at-requires-clause-rise
first_reaching-at-requires-clause-rise c = subst (λ (rs : SlotRuns). EndsRise (top_id 0) 0 rs) (sym c.pieces-pieces.ensures.value) (runs_rise c.args.list.now c.pieces-pieces.ensures.sound)

pub overflow_add-place : goal.overflow_add-place
overflow_add-place c =
    let same : c.pieces-pieces.result.now ≡ c.args.list.now = c.pieces-pieces.ensures.value in
    let lt : c.pieces.place.piece < length c.args.list.now = omega (arith, c.pieces-test.true, c.first_reaching-at.ensures.bound.1, ap (λ (s : SlotRuns). length s) same) in
    let run : c.index-pieces-place.result ≡ get_or c.args.list.now c.pieces.place.piece [] = run_read c.pieces-pieces.result.now c.args.list.now c.pieces.place.piece c.index-pieces-place.result same c.index-pieces-place.is lt in
    let below : top_id 0 c.index-pieces-place.result < c.args.target
    = omega (
      arith,
      c.first_reaching-at.ensures.before [] c.pieces.place.piece c.pieces.invariant.onward c.pieces-test.true,
      ap (λ (s : SlotRuns). top_id 0 (get_or s c.pieces.place.piece [])) same,
      ap (top_id 0) run,
    ) in
    let step = passed_by c.args.list.now c.length-sound.ensures.runs c.pieces.place.piece c.pieces.place.read c.pieces.place.passed c.args.target lt c.pieces.invariant.at c.index-pieces-place.result run below in
    omega (arith, c.count.ensures.value, place_within c.args.list.now (c.pieces.place.piece + 1) 0 (c.pieces.place.passed + (length c.index-pieces-place.result - c.pieces.place.read)) step.at, length_fits (flat c.args.list.now) c.length-sound.ensures.sound.sorted)

pub pieces-preserved : goal.pieces-preserved
pieces-preserved c =
    let same : c.pieces-pieces.result.now ≡ c.args.list.now = c.pieces-pieces.ensures.value in
    let lt : c.pieces.place.piece < length c.args.list.now = omega (arith, c.pieces-test.true, c.first_reaching-at.ensures.bound.1, ap (λ (s : SlotRuns). length s) same) in
    let run : c.index-pieces-place.result ≡ get_or c.args.list.now c.pieces.place.piece [] = run_read c.pieces-pieces.result.now c.args.list.now c.pieces.place.piece c.index-pieces-place.result same c.index-pieces-place.is lt in
    let below : top_id 0 c.index-pieces-place.result < c.args.target
    = omega (
      arith,
      c.first_reaching-at.ensures.before [] c.pieces.place.piece c.pieces.invariant.onward c.pieces-test.true,
      ap (λ (s : SlotRuns). top_id 0 (get_or s c.pieces.place.piece [])) same,
      ap (top_id 0) run,
    ) in
    let step = passes_on c.args.list.now c.length-sound.ensures.runs c.pieces.place.piece c.pieces.place.read c.pieces.place.passed c.args.target lt c.pieces.invariant.at c.index-pieces-place.result run below
    c.args.start.passed c.count.result c.count.ensures.value c.pieces.invariant.behind c.pieces.invariant.left in
    record {
      onward = omega (arith, c.pieces.invariant.onward);
      before = omega (arith, c.pieces-test.true);
      at = step.at;
      unread = c.pieces.invariant.unread;
      behind = step.behind;
      left = step.left;
    }

pub overflow_add-place-then-at-pieces : goal.overflow_add-place-then-at-pieces
overflow_add-place-then-at-pieces c =
    let same : c.pieces-pieces.result.now ≡ c.args.list.now = c.pieces-pieces.ensures.value in
    let inside : c.first_reaching-at.result < length c.args.list.now = omega (arith, c.if-at-pieces.true, ap (λ (s : SlotRuns). length s) same) in
    let here : c.first_reaching-at.result ≡ c.pieces.place.piece = omega (arith, c.pieces-test.false, c.pieces.invariant.before) in
    let there : c.index-pieces-at.result ≡ get_or c.args.list.now c.first_reaching-at.result [] = run_read c.pieces-pieces.result.now c.args.list.now c.first_reaching-at.result c.index-pieces-at.result same c.index-pieces-at.is inside in
    let reaches : c.args.target ≤ top_id 0 c.index-pieces-at.result
    = omega (arith, c.first_reaching-at.ensures.reaches [] c.if-at-pieces.true, ap (λ (s : SlotRuns). top_id 0 (get_or s c.first_reaching-at.result [])) same, ap (top_id 0) there) in
    let step = found_here c.args.list.now c.length-sound.ensures.runs c.pieces.place.piece c.pieces.place.read c.pieces.place.passed c.args.target (omega (arith, here, inside)) c.pieces.invariant.at c.index-pieces-at.result
    (there ∙ ap (λ i. get_or c.args.list.now i []) here) c.place_from-read.result c.place_from-read.ensures.behind c.place_from-read.ensures.within reaches c.place_from-read.ensures.left in
    omega (arith, place_within c.args.list.now c.pieces.place.piece c.place_from-read.result (c.pieces.place.passed + (c.place_from-read.result - c.pieces.place.read)) step.at, length_fits (flat c.args.list.now) c.length-sound.ensures.sound.sorted)

pub returns-then-at-pieces-clause-left : goal.returns-then-at-pieces-clause-left
returns-then-at-pieces-clause-left c =
    let same : c.pieces-pieces.result.now ≡ c.args.list.now = c.pieces-pieces.ensures.value in
    let inside : c.first_reaching-at.result < length c.args.list.now = omega (arith, c.if-at-pieces.true, ap (λ (s : SlotRuns). length s) same) in
    let here : c.first_reaching-at.result ≡ c.pieces.place.piece = omega (arith, c.pieces-test.false, c.pieces.invariant.before) in
    let there : c.index-pieces-at.result ≡ get_or c.args.list.now c.first_reaching-at.result [] = run_read c.pieces-pieces.result.now c.args.list.now c.first_reaching-at.result c.index-pieces-at.result same c.index-pieces-at.is inside in
    let reaches : c.args.target ≤ top_id 0 c.index-pieces-at.result
    = omega (arith, c.first_reaching-at.ensures.reaches [] c.if-at-pieces.true, ap (λ (s : SlotRuns). top_id 0 (get_or s c.first_reaching-at.result [])) same, ap (top_id 0) there) in
    let step = found_here c.args.list.now c.length-sound.ensures.runs c.pieces.place.piece c.pieces.place.read c.pieces.place.passed c.args.target (omega (arith, here, inside)) c.pieces.invariant.at c.index-pieces-at.result
    (there ∙ ap (λ i. get_or c.args.list.now i []) here) c.place_from-read.result c.place_from-read.ensures.behind c.place_from-read.ensures.within reaches c.place_from-read.ensures.left in
    step.left ∙ c.pieces.invariant.left
