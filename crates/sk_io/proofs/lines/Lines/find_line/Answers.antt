use Rattle.std.proofs.Common.{◌≡◌, ◌<◌, length, arith, rules, ap}
use Rattle.std.proofs.lemmas.Result.{err_from_is_err_and}
use Rattle.sk_io.proofs.Stream.{drop_none, drop_then, give_line, give_long, give_rest, ends, passes_over, stops}
use Rattle.sk_io.proofs.lines.Lines.find_line.Goals as goal

pub overflow_add-at : goal.overflow_add-at
overflow_add-at g c = search (rules, c.in-Ok-At.ensures.ok)

pub returns-then-at-gt-MAX_LINE-clause-reads : goal.returns-then-at-gt-MAX_LINE-clause-reads
returns-then-at-gt-MAX_LINE-clause-reads g c =
    let s = c.in-Ok-At.ensures.ok in
    let sought = rw c.in-Ok-At.field-0-is at s.sought in
    give_long _ _ c.read_end.new.self _ c.give.new.self c.in-Ok-At.at c.give.ensures (drop_then _ _ _ _ _ c.drop_given.ensures s.passes) s.is_open sought.ends c.if-at-gt-MAX_LINE.true

pub returns-in_err-skip_line-in-Ok-Far-clause-reads :
    goal.returns-in_err-skip_line-in-Ok-Far-clause-reads
returns-in_err-skip_line-in-Ok-Far-clause-reads g c =
    let s = c.in-Ok-Far.ensures.ok in
    let p = err_from_is_err_and c.from_residual.result c.from_residual.ensures.1 in
    rw (p.1, p.2) (stops _ _ c.read_end.new.self _ _ _ _ (drop_then _ _ _ _ _ c.drop_given.ensures s.passes) c.in_err-skip_line-in-Ok-Far.ensures.err)

pub returns-then-len-eq0-clause-reads : goal.returns-then-len-eq0-clause-reads
returns-then-len-eq0-clause-reads g c =
    let s = c.in-Ok-Nowhere.ensures.ok in
    let sought = rw c.in-Ok-Nowhere.field-0-is at s.sought in
    ends _ _ _ _ (drop_then _ _ _ _ _ c.drop_given.ensures s.passes) s.is_open sought (omega (arith, ap length c.held-len.ensures))

pub returns-else-at-gt-MAX_LINE-clause-reads : goal.returns-else-at-gt-MAX_LINE-clause-reads
returns-else-at-gt-MAX_LINE-clause-reads g c =
    let s = c.in-Ok-At.ensures.ok in
    let sought = rw c.in-Ok-At.field-0-is at s.sought in
    give_line _ _ c.read_end.new.self _ c.give.new.self c.in-Ok-At.at c.give.ensures (drop_then _ _ _ _ _ c.drop_given.ensures s.passes) s.is_open sought.ends c.if-at-gt-MAX_LINE.false

pub returns-in_ok-skip_line-in-Ok-Far-clause-reads :
    goal.returns-in_ok-skip_line-in-Ok-Far-clause-reads
returns-in_ok-skip_line-in-Ok-Far-clause-reads g c =
    let s = c.in-Ok-Far.ensures.ok in
    let sought = rw c.in-Ok-Far.field-0-is at s.sought in
    passes_over _ _ c.read_end.new.self _ _ _ (drop_then _ _ _ _ _ c.drop_given.ensures s.passes) sought c.in_ok-skip_line-in-Ok-Far.ensures.ok

pub returns-else-len-eq0-clause-reads : goal.returns-else-len-eq0-clause-reads
returns-else-len-eq0-clause-reads g c =
    let s = c.in-Ok-Nowhere.ensures.ok in
    let sought = rw c.in-Ok-Nowhere.field-0-is at s.sought in
    let len : length c.held-len.result.now ≡ length c.read_end.new.self.held = ap length c.held-len.ensures in
    let some : 0 < length c.held-len.result.now = omega arith in
    give_rest _ _ c.read_end.new.self _ c.give-in-Ok-Nowhere.new.self (length c.held-len.result.now) c.give-in-Ok-Nowhere.ensures (drop_then _ _ _ _ _ c.drop_given.ensures s.passes) s.is_open sought len some

pub returns-in-Err-clause-reads : goal.returns-in-Err-clause-reads
returns-in-Err-clause-reads g c =
    let h = c.in-Err.ensures.err in
    stops _ _ c.drop_given.new.self _ _ _ _ (drop_none _ _ _ c.drop_given.ensures) h
