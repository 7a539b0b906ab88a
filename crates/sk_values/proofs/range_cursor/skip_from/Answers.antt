-- A stop in a piece is one in the whole; a piece without one is read to its end.
use Rattle.std.proofs.Common.{◌≡◌, ◌<◌, ◌-◌, [], length, get_or, Option, IfSome, sym, ap, subst, ◌∙◌, arith}
use Rattle.sk_sorted.proofs.EntryLaws.{length_fits}
use Rattle.sk_sorted.specs.Runs.{flat}
use Rattle.sk_sorted.proofs.RunEditLaws.{run_read}
use Rattle.sk_sorted.proofs.RunPlaceLaws.{place_within}
use Rattle.sk_values.specs.SlotValues.{SlotRuns}
use Rattle.sk_values.specs.declared.span.Span.{Span}
use Rattle.sk_values.specs.Behind.{AreBehind}
use Rattle.sk_values.proofs.CursorLemmas.{next_fits, stops, goes_on}
use Rattle.sk_values.proofs.SkipLaws.{skips_then, skips_stop, skips_on, skips_next}
use Rattle.sk_values.proofs.range_cursor.skip_from.Goals as goal

pub overflow_add-place : goal.overflow_add-place
overflow_add-place g c =
    let lt : c.pieces.place.piece < length c.args.list.now = omega (arith, c.pieces-test.true, ap (λ (s : SlotRuns). length s) c.pieces-pieces.ensures.value) in
    let run : c.index-pieces-place.result ≡ get_or c.args.list.now c.pieces.place.piece [] = run_read c.pieces-pieces.result.now c.args.list.now c.pieces.place.piece c.index-pieces-place.result c.pieces-pieces.ensures.value c.index-pieces-place.is lt in
    let few = c.skip_in-read.ensures.few in
    omega (
      arith,
      next_fits c.args.bounds.now.lo c.args.bounds.now.hi c.args.list.now c.pieces.place.piece c.pieces.place.read c.pieces.place.passed lt c.pieces.invariant.at c.index-pieces-place.result run c.skip_in-read.result.1 c.skip_in-read.result.0
          (omega (arith, few)) c.skip_in-read.ensures.head,
      length_fits (flat c.args.list.now) c.length-sound.ensures.sound.sorted,
    )

pub overflow_add-count-in-pieces : goal.overflow_add-count-in-pieces
overflow_add-count-in-pieces g c =
    let lt : c.pieces.place.piece < length c.args.list.now = omega (arith, c.pieces-test.true, ap (λ (s : SlotRuns). length s) c.pieces-pieces.ensures.value) in
    let run : c.index-pieces-place.result ≡ get_or c.args.list.now c.pieces.place.piece [] = run_read c.pieces-pieces.result.now c.args.list.now c.pieces.place.piece c.index-pieces-place.result c.pieces-pieces.ensures.value c.index-pieces-place.is lt in
    let few = c.skip_in-read.ensures.few in
    omega (
      arith,
      next_fits c.args.bounds.now.lo c.args.bounds.now.hi c.args.list.now c.pieces.place.piece c.pieces.place.read c.pieces.place.passed lt c.pieces.invariant.at c.index-pieces-place.result run c.skip_in-read.result.1 c.skip_in-read.result.0
          (omega (arith, few)) c.skip_in-read.ensures.head,
      length_fits (flat c.args.list.now) c.length-sound.ensures.sound.sorted,
      few,
      c.pieces.invariant.few,
    )

pub returns-then-is_some-clause-head : goal.returns-then-is_some-clause-head
returns-then-is_some-clause-head g c =
    let lt : c.pieces.place.piece < length c.args.list.now = omega (arith, c.pieces-test.true, ap (λ (s : SlotRuns). length s) c.pieces-pieces.ensures.value) in
    let run : c.index-pieces-place.result ≡ get_or c.args.list.now c.pieces.place.piece [] = run_read c.pieces-pieces.result.now c.args.list.now c.pieces.place.piece c.index-pieces-place.result c.pieces-pieces.ensures.value c.index-pieces-place.is lt in
    let few = c.skip_in-read.ensures.few in
    stops c.args.bounds.now.lo c.args.bounds.now.hi c.args.list.now c.pieces.place.piece c.pieces.place.read c.pieces.place.passed lt c.pieces.invariant.at c.index-pieces-place.result run c.skip_in-read.result.1 c.skip_in-read.result.0
    (omega (arith, few)) c.skip_in-read.ensures.head (sym c.is_some.ensures ∙ c.if-is_some.true)

pub returns-then-is_some-clause-skips : goal.returns-then-is_some-clause-skips
returns-then-is_some-clause-skips g c last number =
    let lt : c.pieces.place.piece < length c.args.list.now = omega (arith, c.pieces-test.true, ap (λ (s : SlotRuns). length s) c.pieces-pieces.ensures.value) in
    let run : c.index-pieces-place.result ≡ get_or c.args.list.now c.pieces.place.piece [] = run_read c.pieces-pieces.result.now c.args.list.now c.pieces.place.piece c.index-pieces-place.result c.pieces-pieces.ensures.value c.index-pieces-place.is lt in
    let few = c.skip_in-read.ensures.few in
    skips_then c.args.edge.now.reverse last c.pieces.count c.skip_in-read.result.2 _ _ _ (c.pieces.invariant.skips last number)
    (skips_stop c.args.edge.now.reverse last c.args.bounds.now.lo c.args.bounds.now.hi c.args.list.now c.pieces.place.piece c.pieces.place.read c.pieces.place.passed lt c.pieces.invariant.at c.index-pieces-place.result run c.skip_in-read.result.1 c.skip_in-read.result.0
    (omega (arith, few)) c.skip_in-read.ensures.head c.skip_in-read.result.2 (c.skip_in-read.ensures.skips last number) (sym c.is_some.ensures ∙ c.if-is_some.true))

pub pieces-preserved : goal.pieces-preserved
pieces-preserved g c =
    let lt : c.pieces.place.piece < length c.args.list.now = omega (arith, c.pieces-test.true, ap (λ (s : SlotRuns). length s) c.pieces-pieces.ensures.value) in
    let run : c.index-pieces-place.result ≡ get_or c.args.list.now c.pieces.place.piece [] = run_read c.pieces-pieces.result.now c.args.list.now c.pieces.place.piece c.index-pieces-place.result c.pieces-pieces.ensures.value c.index-pieces-place.is lt in
    let few = c.skip_in-read.ensures.few in
    record {
      at = goes_on c.args.bounds.now.lo c.args.bounds.now.hi c.args.list.now c.pieces.place.piece c.pieces.place.read c.pieces.place.passed lt c.pieces.invariant.at c.index-pieces-place.result run c.skip_in-read.result.1 c.skip_in-read.result.0
          (omega (arith, few)) c.skip_in-read.ensures.head (sym c.is_some.ensures ∙ c.if-is_some.false);
      few = omega (arith, c.pieces.invariant.few, few);
      skips = λ last number.
          skips_then c.args.edge.now.reverse last c.pieces.count c.skip_in-read.result.2 _ _ _ (c.pieces.invariant.skips last number)
          (skips_on c.args.edge.now.reverse last c.args.bounds.now.lo c.args.bounds.now.hi c.args.list.now c.pieces.place.piece c.pieces.place.read c.pieces.place.passed lt c.pieces.invariant.at c.index-pieces-place.result run c.skip_in-read.result.1 c.skip_in-read.result.0
          (omega (arith, few)) c.skip_in-read.ensures.head c.skip_in-read.result.2 (c.skip_in-read.ensures.skips last number) (sym c.is_some.ensures ∙ c.if-is_some.false));
      once = omega (arith, c.pieces.invariant.once, few);
      later = omega (arith, c.pieces.invariant.later);
      cost = omega (arith, c.pieces.invariant.cost, c.skip_in-read.ensures.cost, few);
    }

pub overflow_add-count : goal.overflow_add-count
overflow_add-count g c =
    omega (
      arith,
      c.pieces.invariant.few,
      place_within c.args.list.now c.in-Some-pass_behind.next.piece c.in-Some-pass_behind.next.read c.in-Some-pass_behind.next.passed c.in-Some-pass_behind.ensures.at,
      c.in-Some-pass_behind.ensures.behind,
      length_fits (flat c.args.list.now) c.length-sound.ensures.sound.sorted,
    )

pub pieces-preserved-in-Some-pass_behind : goal.pieces-preserved-in-Some-pass_behind
pieces-preserved-in-Some-pass_behind g c =
    let lt : c.pieces.place.piece < length c.args.list.now = omega (arith, c.pieces-test.true, ap (λ (s : SlotRuns). length s) c.pieces-pieces.ensures.value) in
    let next = c.in-Some-pass_behind.ensures in
    let span : Span = next.among.0 in
    let are : AreBehind c.args.edge.now.number c.args.edge.now.reverse c.args.bounds.now.lo c.args.bounds.now.hi span
    = subst (λ (o : Option Span). IfSome o (λ s. AreBehind c.args.edge.now.number c.args.edge.now.reverse c.args.bounds.now.lo c.args.bounds.now.hi s)) next.among.1 c.behind-behind.ensures in
    record {
      at = next.at;
      few = omega (arith, c.pieces.invariant.few, next.behind);
      skips = λ last number.
          skips_then c.args.edge.now.reverse last c.pieces.count (c.in-Some-pass_behind.next.passed - c.pieces.place.passed) _ _ _ (c.pieces.invariant.skips last number)
          (skips_next c.args.edge.now.number c.args.edge.now.reverse c.args.bounds.now.lo c.args.bounds.now.hi span are last c.args.list.now c.pieces.place.piece c.pieces.place.read c.pieces.place.passed c.in-Some-pass_behind.next.passed
          number lt c.pieces.invariant.at next.among.2 next.behind);
      once = omega (arith, c.pieces.invariant.once, next.behind, next.unread);
      later = omega (arith, c.pieces.invariant.later, next.unread);
      cost = omega (arith, c.pieces.invariant.cost, next.unread);
    }
