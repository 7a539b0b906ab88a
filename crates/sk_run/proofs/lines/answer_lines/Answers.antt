use Rattle.std.proofs.Common.{arith, Err, ap, refl, sym, ◌∙◌, true≢false}
use Rattle.std.proofs.lemmas.Result.{err_from_is_err_and}
use Rattle.sk_io.specs.declared.line.LineStop.TheVariants as LineStop
use Rattle.sk_run.specs.Outsides.{output_at}
use Rattle.sk_run.specs.declared.status.Status.TheVariants as Status
use Rattle.sk_run.specs.Machines.{MachineStands}
use Rattle.sk_run.specs.Conducts.{AnswersAs}
use Rattle.sk_run.proofs.RunLemmas.{taken_none, taken_more, full, rose_since, failed_now, still_goes, not_held}
use Rattle.sk_run.proofs.EndLemmas.{so_none, so_put, so_more, ends_at_once, ends_unread, ends_unput, ends_within, ends_read}
use Rattle.sk_run.proofs.lines.answer_lines.Goals as goal

pub returns-in_default-clause-err : goal.returns-in_default-clause-err
returns-in_default-clause-err g c = ends_at_once c.args.printing (MachineStands g.M.Store.under g.M.Store.holds) (AnswersAs g.M.Store.conduct c.args.reading) c.args.first (g.S.Source.seen c.args.input.now) _ _ refl

pub returns-in_default-new-clause-err : goal.returns-in_default-new-clause-err
returns-in_default-new-clause-err g c = ends_at_once c.args.printing (MachineStands g.M.Store.under g.M.Store.holds) (AnswersAs g.M.Store.conduct c.args.reading) c.args.first (g.S.Source.seen c.args.input.now) _ _ refl

pub lines-init : goal.lines-init
lines-init g c = record {
  goes = ap (λ r. r.stopped) c.in-Ok.ensures;
  read_later = omega arith;
  write_later = omega arith;
  finishes = refl;
  taken = λ bytes told. taken_none bytes _ _ c.in-Ok.ensures told;
  so_far = so_none c.args.printing (MachineStands g.M.Store.under g.M.Store.holds) (AnswersAs g.M.Store.conduct c.args.reading) _ _ _ _ _ _ _ c.in-Ok.ensures c.in-Ok-new.ensures;
}

pub returns-in_default-put_unless-clause-err : goal.returns-in_default-put_unless-clause-err
returns-in_default-put_unless-clause-err g c =
    let so = c.lines.invariant in (
      ends_unput c.args.printing (MachineStands g.M.Store.under g.M.Store.holds) (AnswersAs g.M.Store.conduct c.args.reading) c.args.first (g.S.Source.seen c.args.input.now) c.args.refused_before _ _ _ _ _ _ c.lines.machine c.lines.refused so.so_far c.in_default-put_unless.ensures.err (c.put_unless.ensures.finishes ∙ so.finishes),
      rose_since _ _ _ so.write_later (c.in_default-put_unless.ensures.cause.failed refl),
    )

pub returns-in-Ok-None-clause-ok : goal.returns-in-Ok-None-clause-ok
returns-in-Ok-None-clause-ok g c =
    let reads = rw (c.in-Ok-None.is, c.in-Ok-None.field-0-is) at c.next.follows.holds-at-none in
    let given = rw c.in-Ok-None.field-0-is at c.in-Ok-None.ensures.given in
    let so = c.lines.invariant in
    ends_read c.args.printing (MachineStands g.M.Store.under g.M.Store.holds) (AnswersAs g.M.Store.conduct c.args.reading) c.args.first (g.S.Source.seen c.args.input.now) _ c.args.refused_before _ _ _ _ _ _ c.lines.machine c.lines.refused
    (so_put c.args.printing (MachineStands g.M.Store.under g.M.Store.holds) (AnswersAs g.M.Store.conduct c.args.reading) _ _ _ _ _ _ _ _ _ _ _ _ _ _ so.so_far c.in-Ok-put_unless.ensures.ok)
    (c.in-Ok-put_unless.ensures.empty (not_held _ _ c.waits.ensures (λ has. given has so.goes))) (reads.goes_on so.goes) (c.put_unless.ensures.finishes ∙ so.finishes) (omega (arith, so.write_later, c.put_unless.ensures.cause.later))

pub returns-in-Err-Failed-clause-err : goal.returns-in-Err-Failed-clause-err
returns-in-Err-Failed-clause-err g c =
    let reads = rw (c.in-Err-Failed.is, c.in-Err-Failed.field-0-is) at c.next.follows.holds-at-none in
    let so = c.lines.invariant in
    ends_unread c.args.printing (MachineStands g.M.Store.under g.M.Store.holds) (AnswersAs g.M.Store.conduct c.args.reading) c.args.first (g.S.Source.seen c.args.input.now) (g.S.Source.seen c.next.new.source) c.args.refused_before _ _ _ _ _ _ c.lines.machine c.lines.refused LineStop.Failed Status.ReadFault
    (so_put c.args.printing (MachineStands g.M.Store.under g.M.Store.holds) (AnswersAs g.M.Store.conduct c.args.reading) _ _ _ _ _ _ _ _ _ _ _ _ _ _ so.so_far c.in-Ok-put_unless.ensures.ok)
    (c.in-Ok-put_unless.ensures.empty (not_held _ _ c.waits.ensures (λ has. c.in-Err-Failed.ensures.given has so.goes))) (reads.goes_on so.goes) (λ at_end. true≢false (sym (c.in-Err-Failed.ensures.no_stop at_end so.goes))) (c.put_unless.ensures.finishes ∙ so.finishes)
    (rose_since _ _ _ so.read_later (failed_now _ _ _ so.goes (c.in-Err-Failed.ensures.cause.failed (ap Err c.in-Err-Failed.field-0-is))))

pub returns-in-Err-TooMuch-clause-err : goal.returns-in-Err-TooMuch-clause-err
returns-in-Err-TooMuch-clause-err g c =
    let reads = rw (c.in-Err-TooMuch.is, c.in-Err-TooMuch.field-0-is) at c.next.follows.holds-at-none in
    let so = c.lines.invariant in
    ends_unread c.args.printing (MachineStands g.M.Store.under g.M.Store.holds) (AnswersAs g.M.Store.conduct c.args.reading) c.args.first (g.S.Source.seen c.args.input.now) (g.S.Source.seen c.next.new.source) c.args.refused_before _ _ _ _ _ _ c.lines.machine c.lines.refused LineStop.TooMuch Status.TooMuch
    (so_put c.args.printing (MachineStands g.M.Store.under g.M.Store.holds) (AnswersAs g.M.Store.conduct c.args.reading) _ _ _ _ _ _ _ _ _ _ _ _ _ _ so.so_far c.in-Ok-put_unless.ensures.ok)
    (c.in-Ok-put_unless.ensures.empty (not_held _ _ c.waits.ensures (λ has. c.in-Err-TooMuch.ensures.given has so.goes))) (reads.goes_on so.goes) (λ at_end. true≢false (sym (c.in-Err-TooMuch.ensures.no_stop at_end so.goes))) (c.put_unless.ensures.finishes ∙ so.finishes)
    (λ bytes told. full bytes _ _ _ _ (so.taken bytes told) (reads.goes_on so.goes))

pub returns-in_err-next-clause-err : goal.returns-in_err-next-clause-err
returns-in_err-next-clause-err g c =
    let reads = rw (c.in-Ok-Some.is, c.in-Ok-Some.field-0-is) at c.next.follows.holds-at-none in
    let so = c.lines.invariant in
    let p = err_from_is_err_and c.from_residual.result c.from_residual.ensures.1 in
    rw (p.1, p.2)
    (ends_within c.args.printing (MachineStands g.M.Store.under g.M.Store.holds) (AnswersAs g.M.Store.conduct c.args.reading) c.args.first (g.S.Source.seen c.args.input.now) (g.S.Source.seen c.next.new.source) c.args.refused_before
    (output_at (g.K.Sink.seen c.args.output.now) c.args.steps.now)
    (output_at (g.K.Sink.seen c.put_unless.new.output) c.lines.steps)
    (output_at (g.K.Sink.seen c.answer_line.new.output) c.answer_line.new.steps)
    _ _ _ _ c.lines.machine c.lines.refused c.in-Ok-Some.line
    (so_put c.args.printing (MachineStands g.M.Store.under g.M.Store.holds) (AnswersAs g.M.Store.conduct c.args.reading) _ _ _ _ _ _ _ _ _ _ _ _ _ _ so.so_far c.in-Ok-put_unless.ensures.ok)
    (reads.goes_on so.goes) (c.put_unless.ensures.finishes ∙ so.finishes) (omega (arith, so.write_later, c.put_unless.ensures.cause.later)) _ c.in_err-next.ensures.err)

pub lines-preserved : goal.lines-preserved
lines-preserved g c =
    let reads = rw (c.in-Ok-Some.is, c.in-Ok-Some.field-0-is) at c.next.follows.holds-at-none in
    let so = c.lines.invariant in
    let joins = c.in_ok-next.ensures.ok in
    record {
      goes = still_goes _ _ _ _ c.in-Ok-Some.line (reads.goes_on so.goes);
      read_later = omega (arith, so.read_later, c.in-Ok-Some.ensures.cause.later);
      write_later = omega (arith, so.write_later, c.put_unless.ensures.cause.later, joins.later);
      finishes = joins.finishes ∙ c.put_unless.ensures.finishes ∙ so.finishes;
      taken = λ bytes told. taken_more bytes _ _ _ _ c.in-Ok-Some.line (so.taken bytes told) (reads.goes_on so.goes);
      so_far =
          so_more c.args.printing (MachineStands g.M.Store.under g.M.Store.holds) (AnswersAs g.M.Store.conduct c.args.reading)
          _ _ _ _ _ _ _ _ _ _ _ c.lines.machine c.in_ok-next.next c.lines.refused c.in_ok-next.refuses
          (output_at (g.K.Sink.seen c.put_unless.new.output) c.lines.steps)
          (output_at (g.K.Sink.seen c.answer_line.new.output) c.answer_line.new.steps)
          c.in-Ok-Some.line (so_put c.args.printing (MachineStands g.M.Store.under g.M.Store.holds) (AnswersAs g.M.Store.conduct c.args.reading) _ _ _ _ _ _ _ _ _ _ _ _ _ _ so.so_far c.in-Ok-put_unless.ensures.ok) (reads.goes_on so.goes) joins;
    }
