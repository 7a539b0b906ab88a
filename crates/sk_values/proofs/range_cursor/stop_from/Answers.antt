-- A stop in a piece is one in the whole; a piece without one is read to its end.
use Rattle.std.proofs.Common.{◌≡◌, ◌<◌, [], length, get_or, sym, ap, ◌∙◌, arith}
use Rattle.sk_sorted.proofs.EntryLaws.{length_fits}
use Rattle.sk_sorted.specs.Runs.{flat}
use Rattle.sk_sorted.proofs.RunEditLaws.{run_read}
use Rattle.sk_values.specs.SlotValues.{SlotRuns}
use Rattle.sk_values.proofs.CursorLemmas.{next_fits, stops, stops_left, goes_on, goes_on_left}
use Rattle.sk_values.proofs.range_cursor.stop_from.Goals as goal

pub overflow_add-place : goal.overflow_add-place
overflow_add-place g c =
    let lt : c.pieces.place.piece < length c.args.list.now = omega (arith, c.pieces-test.true, ap (λ (s : SlotRuns). length s) c.pieces-pieces.ensures.value) in
    let run : c.index-pieces-place.result ≡ get_or c.args.list.now c.pieces.place.piece [] = run_read c.pieces-pieces.result.now c.args.list.now c.pieces.place.piece c.index-pieces-place.result c.pieces-pieces.ensures.value c.index-pieces-place.is lt in
    omega (
      arith,
      next_fits c.args.bounds.now.lo c.args.bounds.now.hi c.args.list.now c.pieces.place.piece c.pieces.place.read c.pieces.place.passed lt c.pieces.invariant.at c.index-pieces-place.result run c.stop_in-read.result.1 c.stop_in-read.result.0
          c.stop_in-read.ensures.behind c.stop_in-read.ensures.head,
      length_fits (flat c.args.list.now) c.length-sound.ensures.sound.sorted,
    )

pub returns-then-is_some-clause-head : goal.returns-then-is_some-clause-head
returns-then-is_some-clause-head g c =
    let lt : c.pieces.place.piece < length c.args.list.now = omega (arith, c.pieces-test.true, ap (λ (s : SlotRuns). length s) c.pieces-pieces.ensures.value) in
    let run : c.index-pieces-place.result ≡ get_or c.args.list.now c.pieces.place.piece [] = run_read c.pieces-pieces.result.now c.args.list.now c.pieces.place.piece c.index-pieces-place.result c.pieces-pieces.ensures.value c.index-pieces-place.is lt in
    stops c.args.bounds.now.lo c.args.bounds.now.hi c.args.list.now c.pieces.place.piece c.pieces.place.read c.pieces.place.passed lt c.pieces.invariant.at c.index-pieces-place.result run c.stop_in-read.result.1 c.stop_in-read.result.0
    c.stop_in-read.ensures.behind c.stop_in-read.ensures.head (sym c.is_some.ensures ∙ c.if-is_some.true)

pub returns-then-is_some-clause-left : goal.returns-then-is_some-clause-left
returns-then-is_some-clause-left g c =
    let lt : c.pieces.place.piece < length c.args.list.now = omega (arith, c.pieces-test.true, ap (λ (s : SlotRuns). length s) c.pieces-pieces.ensures.value) in
    let run : c.index-pieces-place.result ≡ get_or c.args.list.now c.pieces.place.piece [] = run_read c.pieces-pieces.result.now c.args.list.now c.pieces.place.piece c.index-pieces-place.result c.pieces-pieces.ensures.value c.index-pieces-place.is lt in
    stops_left c.args.bounds.now.lo c.args.bounds.now.hi c.args.list.now c.pieces.place.piece c.pieces.place.read c.pieces.place.passed lt c.pieces.invariant.at c.index-pieces-place.result run c.stop_in-read.result.1 c.stop_in-read.result.0
    c.stop_in-read.ensures.behind c.stop_in-read.ensures.head c.stop_in-read.ensures.left (sym c.is_some.ensures ∙ c.if-is_some.true) ∙ c.pieces.invariant.left

pub pieces-preserved : goal.pieces-preserved
pieces-preserved g c =
    let lt : c.pieces.place.piece < length c.args.list.now = omega (arith, c.pieces-test.true, ap (λ (s : SlotRuns). length s) c.pieces-pieces.ensures.value) in
    let run : c.index-pieces-place.result ≡ get_or c.args.list.now c.pieces.place.piece [] = run_read c.pieces-pieces.result.now c.args.list.now c.pieces.place.piece c.index-pieces-place.result c.pieces-pieces.ensures.value c.index-pieces-place.is lt in
    record {
      at = goes_on c.args.bounds.now.lo c.args.bounds.now.hi c.args.list.now c.pieces.place.piece c.pieces.place.read c.pieces.place.passed lt c.pieces.invariant.at c.index-pieces-place.result run c.stop_in-read.result.1 c.stop_in-read.result.0
          c.stop_in-read.ensures.behind c.stop_in-read.ensures.head (sym c.is_some.ensures ∙ c.if-is_some.false);
      behind = omega (arith, c.pieces.invariant.behind);
      left = goes_on_left c.args.bounds.now.lo c.args.bounds.now.hi c.args.list.now c.pieces.place.piece c.pieces.place.read c.pieces.place.passed lt c.pieces.invariant.at c.index-pieces-place.result run c.stop_in-read.result.1 c.stop_in-read.result.0
          c.stop_in-read.ensures.behind c.stop_in-read.ensures.head c.stop_in-read.ensures.left (sym c.is_some.ensures ∙ c.if-is_some.false) ∙ c.pieces.invariant.left;
      once = omega (arith, c.pieces.invariant.once);
      later = omega (arith, c.pieces.invariant.later);
      cost = omega (arith, c.pieces.invariant.cost, c.stop_in-read.ensures.cost, c.stop_in-read.ensures.behind);
    }
