-- Where one ends below the target, so do those before it.
use Rattle.std.proofs.Common.{arith, ◌<◌, ◌+◌, ◌-◌, ◌/◌, ℕ, length, get_or, ap}
use Rattle.std.proofs.lemmas.List.{get_or_default}
use Rattle.sk_sorted.proofs.ReachLaws.{ends_below}
use Rattle.sk_sorted.proofs.reach.first_between.Goals as goal

pub halve-preserved-then-end-target : goal.halve-preserved-then-end-target
halve-preserved-then-end-target g c =
    let middle : ℕ = c.halve.low + (c.halve.high - c.halve.low) / 2 in
    let inside : middle < length c.args.runs.now = omega (arith, c.halve-test.true, c.halve.invariant.within, c.requires.within) in
    let below : g.R.Ends.end (get_or c.args.runs.now middle c.index-runs-middle.result) < c.args.target = omega (arith, ap g.R.Ends.end c.index-runs-middle.is, c.end.ensures, c.if-end-target.true) in
    record {
      from = omega (arith, c.halve.invariant.from);
      order = omega (arith, c.halve-test.true);
      within = c.halve.invariant.within;
      before = λ r k from lt. omega (
        arith,
        ends_below g.R.Ends.end 0 c.args.runs.now c.args.target middle k c.index-runs-middle.result c.requires.rise inside below (omega (arith, lt)),
        ap g.R.Ends.end (get_or_default c.args.runs.now k r c.index-runs-middle.result (omega (arith, lt, inside))),
      );
      reaches = c.halve.invariant.reaches;
    }
