-- Where one ends below the target, so do those before it.
use Rattle.std.proofs.Common.{arith, ◌<◌, ◌+◌, ◌-◌, ℕ, length, get_or, ap}
use Rattle.std.proofs.lemmas.List.{get_or_default}
use Rattle.sk_sorted.proofs.ReachLaws.{ends_below}
use Rattle.sk_sorted.proofs.reach.first_reaching.Goals as goal

pub gallop-preserved : goal.gallop-preserved
gallop-preserved g c =
    let at : ℕ = c.gallop.from + (c.gallop.from - c.args.start) in
    let inside : at < length c.args.runs.now = omega (arith, c.gallop-test.true, c.gallop.invariant.within) in
    let below : g.R.Ends.end (get_or c.args.runs.now at c.index-runs-at.result) < c.args.target = omega (arith, ap g.R.Ends.end c.index-runs-at.is, c.end.ensures, c.if-target-end.false) in
    record {
      from = omega (arith, c.gallop.invariant.from);
      within = omega (arith, inside);
      before = λ r k from lt. omega (
        arith,
        ends_below g.R.Ends.end 0 c.args.runs.now c.args.target at k c.index-runs-at.result c.requires.rise inside below (omega (arith, lt)),
        ap g.R.Ends.end (get_or_default c.args.runs.now k r c.index-runs-at.result (omega (arith, lt, inside))),
      );
    }
