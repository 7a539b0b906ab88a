use Rattle.std.proofs.Common.{◌∙◌, sym, ap, arith}
use Rattle.sk_model.specs.Ranges.{is_within}
use Rattle.sk_values.proofs.RangeLaws.{in_range-past}
use Rattle.sk_values.proofs.range_cursor.stop_in.Goals as goal

pub entries-preserved : goal.entries-preserved
entries-preserved g c = record {
  behind = omega arith;
  within = omega arith;
  left = in_range-past c.args.bounds.now.lo c.args.bounds.now.hi c.args.piece.now c.entries.read (omega (arith, c.count-end.ensures.value))
      (ap (is_within c.args.bounds.now.lo c.args.bounds.now.hi) (sym c.entry-id.ensures.value) ∙ sym c.contains.ensures ∙ c.if-contains.false) ∙ c.entries.invariant.left;
  cost = omega arith;
}
