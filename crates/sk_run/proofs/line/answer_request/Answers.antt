use Rattle.std.proofs.Common.{not, refl, sym, ap, ◌∙◌}
use Rattle.sk_run.specs.Outsides.{output_at}
use Rattle.sk_run.specs.declared.machine.Machine.{Machine}
use Rattle.sk_run.specs.Requests.{AnsweredRequest}
use Rattle.sk_run.proofs.AnsweringLemmas.{fails_first, lacks_answer, lacks_text, fails_joined, joined}
use Rattle.sk_run.proofs.line.answer_request.Goals as goal

pub returns-in_default-clause-err : goal.returns-in_default-clause-err
returns-in_default-clause-err g c =
    fails_first c.args.printing
    (λ answer. (next : Machine g.row.M.Denot) × AnsweredRequest g.M.Store.under g.M.Store.holds g.M.Store.conduct c.args.machine c.args.request answer next) _ _ _ c.in_default.ensures.err refl c.put_unless.ensures.finishes (c.in_default.ensures.cause.failed refl)

pub returns-in_default-answer-clause-err : goal.returns-in_default-answer-clause-err
returns-in_default-answer-clause-err g c =
    lacks_answer c.args.printing
    (λ answer. (next : Machine g.row.M.Denot) × AnsweredRequest g.M.Store.under g.M.Store.holds g.M.Store.conduct c.args.machine c.args.request answer next) _ _ (output_at (g.K.Sink.seen c.args.output.now) c.args.steps.now)
    (output_at (g.K.Sink.seen c.put_unless.new.output) c.answer.new.steps)
    c.in-Ok.ensures.ok c.put_unless.ensures.finishes c.put_unless.ensures.cause.later c.may_read-stays.result c.put_last.result
    (output_at (g.K.Sink.seen c.put_last.new.output) c.answer.new.steps)
    (λ e. c.in-Ok.ensures.empty (ap not e)) (λ e. c.in_default-answer.ensures.still (sym c.may_read-stays.ensures ∙ e)) c.put_last.ensures.none c.answer.ensures.later
    (c.put_last.ensures.last c.answer.new.steps)

pub returns-in_default-text-clause-err : goal.returns-in_default-text-clause-err
returns-in_default-text-clause-err g c =
    lacks_text c.args.printing
    (λ answer. (next : Machine g.row.M.Denot) × AnsweredRequest g.M.Store.under g.M.Store.holds g.M.Store.conduct c.args.machine c.args.request answer next) _ _ (output_at (g.K.Sink.seen c.args.output.now) c.args.steps.now)
    (output_at (g.K.Sink.seen c.put_unless.new.output) c.answer.new.steps)
    c.in-Ok.ensures.ok c.put_unless.ensures.finishes c.put_unless.ensures.cause.later c.put_last-in_default-text.result
    (output_at (g.K.Sink.seen c.put_last-in_default-text.new.output) c.answer.new.steps)
    c.in-Ok-answer.answer (c.in-Ok-answer.next, c.in-Ok-answer.ensures.answered) c.in-Ok-answer.ensures.cost (c.put_last-in_default-text.ensures.last c.answer.new.steps)

pub returns-in_default-join-clause-err : goal.returns-in_default-join-clause-err
returns-in_default-join-clause-err g c =
    fails_joined c.args.printing
    (λ answer. (next : Machine g.row.M.Denot) × AnsweredRequest g.M.Store.under g.M.Store.holds g.M.Store.conduct c.args.machine c.args.request answer next) _ _ (output_at (g.K.Sink.seen c.args.output.now) c.args.steps.now)
    (output_at (g.K.Sink.seen c.put_unless.new.output) c.args.steps.now)
    c.in-Ok.ensures.ok c.put_unless.ensures.finishes c.put_unless.ensures.cause.later
    (output_at (g.K.Sink.seen c.join.new.output) c.answer.new.steps)
    c.in-Ok-answer.answer _ (c.in-Ok-answer.next, c.in-Ok-answer.ensures.answered) (c.as_bytes.ensures.value ∙ c.in-Ok-text.ensures) c.in_default-join.ensures.err c.in-Ok-answer.ensures.cost c.join.ensures.finishes
    (c.in_default-join.ensures.cause.failed refl)

pub returns-clause-ok : goal.returns-clause-ok
returns-clause-ok g c =
    joined c.args.printing
    (λ answer. AnsweredRequest g.M.Store.under g.M.Store.holds g.M.Store.conduct c.args.machine c.args.request answer c.in-Ok-answer.next) _ _ (output_at (g.K.Sink.seen c.args.output.now) c.args.steps.now)
    (output_at (g.K.Sink.seen c.put_unless.new.output) c.args.steps.now)
    c.in-Ok.ensures.ok c.put_unless.ensures.finishes c.put_unless.ensures.cause.later
    (output_at (g.K.Sink.seen c.join.new.output) c.answer.new.steps)
    _ c.in-Ok-answer.answer c.refuses-refuses.result _ c.in-Ok-answer.ensures.answered (c.as_bytes.ensures.value ∙ c.in-Ok-text.ensures) c.refuses-refuses.ensures c.in-Ok-join.ensures.ok c.in-Ok-answer.ensures.cost c.join.ensures.finishes
    c.join.ensures.cause.later
