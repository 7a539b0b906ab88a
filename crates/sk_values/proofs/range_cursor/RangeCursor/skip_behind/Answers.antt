-- The head, and what was passed over behind it.
use Rattle.std.proofs.Common.{◌-◌, drop, sym, subst}
use Rattle.sk_sorted.specs.Runs.{flat}
use Rattle.sk_values.specs.SlotValues.{value_at_place}
use Rattle.sk_values.specs.RangeCursor.{in_range, ahead}
use Rattle.sk_values.specs.Behind.{Skips}
use Rattle.sk_values.proofs.RangeLaws.{head_split}
use Rattle.sk_values.proofs.range_cursor.RangeCursor.skip_behind.Goals as goal

pub returns-clause-some : goal.returns-clause-some
returns-clause-some g c = record {
  first = (c.in_ok-_head._head, value_at_place (flat c.args.list.now) (c.args.self.now.place.passed - 1));
  rest = _;
  is = head_split c.args.self.now.bounds.lo c.args.self.now.bounds.hi c.args.self.now.head c.args.self.now.place.passed c.in_ok-_head._head (flat c.args.list.now) c.requires.on.head (sym c.in_ok-_head.was);
  skips = subst (λ b. Skips b c.args.last.now c.skip_from-head.result.2 (in_range c.args.self.now.bounds.lo c.args.self.now.bounds.hi (drop c.args.self.now.place.passed (flat c.args.list.now))) (in_range c.args.self.now.bounds.lo c.args.self.now.bounds.hi (ahead c.skip_from-head.result.1 c.skip_from-head.result.0.passed (flat c.args.list.now)))) c.in_ok-edge.ensures.edge.1
      (c.skip_from-head.ensures.skips c.args.last.now c.in_ok-edge.ensures.edge.0);
}
