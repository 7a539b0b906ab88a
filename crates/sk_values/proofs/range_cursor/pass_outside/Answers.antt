-- A piece that has no value in the range is passed over whole.
use Rattle.std.proofs.Common.{[], length, drop, get_or, refl, ap, ◌∙◌}
use Rattle.sk_sorted.specs.Runs.{flat}
use Rattle.sk_values.specs.RangeCursor.{in_range}
use Rattle.sk_values.proofs.CursorLemmas.{next_left}
use Rattle.sk_values.proofs.range_cursor.pass_outside.Goals as goal

pub returns-clause-left : goal.returns-clause-left
returns-clause-left c =
    ap (λ n. in_range c.args.bounds.now.lo c.args.bounds.now.hi (drop n (flat c.args.list.now))) c.next_front.ensures.behind
    ∙ next_left c.args.list.now c.args.place.piece c.args.place.read c.args.place.passed c.requires.there c.requires.at (length (get_or c.args.list.now c.args.place.piece [])) refl
    c.args.bounds.now.lo c.args.bounds.now.hi (c.lies_outside.ensures c.if-not-lies_outside.false)
