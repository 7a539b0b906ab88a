use Rattle.std.proofs.Common.{◌≡◌, ◌∙◌, true, arith, ap}
use Rattle.std.proofs.lemmas.Result.{err_from_is_err_and}
use Rattle.sk_io.specs.LineText.{NoLineEnd}
use Rattle.sk_io.specs.Steps.{EndsAt}
use Rattle.sk_io.proofs.LineEnds.{no_end_same, ends_same}
use Rattle.sk_io.proofs.Stream.{skip_held, skip_more, skip_finds, skip_ends, skip_halts}
use Rattle.sk_io.proofs.lines.Lines.skip_line.Goals as goal

pub returns-in_err-n-clause-err : goal.returns-in_err-n-clause-err
returns-in_err-n-clause-err g c =
    let so_far = skip_held _ _ c.skip.self _ c.drop_held.new.self c.drop_held.ensures c.skip.invariant.so_far in
    let p = err_from_is_err_and c.from_residual.result c.from_residual.ensures.1 in
    rw (p.1, p.2) (skip_halts _ _ c.drop_held.new.self _ _ _ _ so_far c.in_err-n.ensures.err)

pub returns-then-n-eq0-clause-ok : goal.returns-then-n-eq0-clause-ok
returns-then-n-eq0-clause-ok g c =
    let so_far = skip_held _ _ c.skip.self _ c.drop_held.new.self c.drop_held.ensures c.skip.invariant.so_far in
    let empty = ap (λ r. r.held) c.drop_held.ensures in
    skip_ends _ _ c.drop_held.new.self _ _ _ c.in_ok-n.n so_far empty c.in_ok-n.ensures.ok c.if-n-eq0.true

pub returns-in-Some-clause-ok : goal.returns-in-Some-clause-ok
returns-in-Some-clause-ok g c =
    let so_far = skip_held _ _ c.skip.self _ c.drop_held.new.self c.drop_held.ensures c.skip.invariant.so_far in
    let empty = ap (λ r. r.held) c.drop_held.ensures in
    let end : EndsAt c.fill.new.self.held c.in-Some.place = ends_same _ _ _ c.held.ensures c.in-Some.ensures in
    skip_finds _ _ c.drop_held.new.self _ c.fill.new.self _ c.give.new.self c.in_ok-n.n c.in-Some.place c.give.ensures so_far empty c.in_ok-n.ensures.ok end

pub skip-preserved : goal.skip-preserved
skip-preserved g c =
    let so_far = skip_held _ _ c.skip.self _ c.drop_held.new.self c.drop_held.ensures c.skip.invariant.so_far in
    let empty = ap (λ r. r.held) c.drop_held.ensures in
    let none : NoLineEnd c.fill.new.self.held = no_end_same _ _ c.held.ensures c.in_default.ensures in
    record {
      so_far = skip_more _ _ c.drop_held.new.self _ c.fill.new.self _ c.in_ok-n.n so_far empty c.in_ok-n.ensures.ok none;
      later = omega (arith, c.skip.invariant.later, c.fill.ensures.cause.later);
      ended = λ e.
          let was : c.drop_held.new.self.ended ≡ true = ap (λ r. r.ended) c.drop_held.ensures ∙ (c.skip.invariant.ended e).0 in
          let got = (c.in_ok-n.ensures.ended was).2 in
          let none_taken : c.in_ok-n.n ≡ 0 = cc in
          absurd (c.if-n-eq0.false none_taken);
    }
