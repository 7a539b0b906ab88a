use Rattle.std.proofs.Common.{◌∙◌, length, sym, ap, arith}
use Rattle.sk_sorted.specs.Runs.{flat}
use Rattle.sk_values.specs.RangeCursor.{in_range}
use Rattle.sk_values.proofs.RangeLaws.{stays_left, stays_unread, moves_left, moves_on, end-all}
use Rattle.sk_values.proofs.range_cursor.RangeCursor.seek.Goals as goal

pub returns-then-not-is_below-clause-left : goal.returns-then-not-is_below-clause-left
returns-then-not-is_below-clause-left g c =
    stays_left c.args.self.now.bounds.lo c.args.self.now.bounds.hi c.args.self.now.head c.args.self.now.place.passed c.args.target (flat c.args.list.now) c.requires.on.head (sym c.if-not-is_below.ensures)

pub returns-then-not-is_below-clause-unread : goal.returns-then-not-is_below-clause-unread
returns-then-not-is_below-clause-unread g c =
    end-all _ _ (stays_unread c.args.self.now.bounds.lo c.args.self.now.bounds.hi c.args.self.now.head c.args.self.now.place.passed c.args.target (flat c.args.list.now) c.length-sound.ensures.sound.sorted c.requires.on.head (sym c.if-not-is_below.ensures))

pub returns-then-not-is_below-clause-within : goal.returns-then-not-is_below-clause-within
returns-then-not-is_below-clause-within g c =
    omega (arith, ap length (stays_unread c.args.self.now.bounds.lo c.args.self.now.bounds.hi c.args.self.now.head c.args.self.now.place.passed c.args.target (flat c.args.list.now) c.length-sound.ensures.sound.sorted c.requires.on.head (sym c.if-not-is_below.ensures)))

pub returns-clause-left : goal.returns-clause-left
returns-clause-left g c =
    c.stop_from-head.ensures.left
    ∙ ap (in_range c.args.self.now.bounds.lo c.args.self.now.bounds.hi) c.place_from-place.ensures.left
    ∙ moves_left c.args.self.now.bounds.lo c.args.self.now.bounds.hi c.args.self.now.head c.args.self.now.place.passed c.args.target (flat c.args.list.now) c.length-sound.ensures.sound.sorted c.requires.on.head (sym c.if-not-is_below.ensures)

pub returns-clause-stays : goal.returns-clause-stays
returns-clause-stays g c above = absurd (moves_on c.args.self.now.bounds.lo c.args.self.now.bounds.hi c.args.self.now.head c.args.self.now.place.passed c.args.target (flat c.args.list.now) c.requires.on.head (sym c.if-not-is_below.ensures) above)
