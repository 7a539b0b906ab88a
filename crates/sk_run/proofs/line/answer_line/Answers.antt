use Rattle.std.proofs.Common.{refl, subst, Option}
use Rattle.sk_base.specs.declared.schema.Schema.{Schema}
use Rattle.sk_run.specs.declared.machine.Machine.{Machine}
use Rattle.sk_run.specs.Lines.{AnsweredLine}
use Rattle.sk_run.specs.Machines.{MachineStands}
use Rattle.sk_run.specs.Conducts.{AnswersAs}
use Rattle.sk_run.specs.Requests.{AsksFor, AnsweredRequest}
use Rattle.sk_run.proofs.MachineLemmas.{line_answered}
use Rattle.sk_run.proofs.AnsweringLemmas.{ok_as, err_as, joins_as, joins_not_as, lacks_request}
use Rattle.sk_run.proofs.line.answer_line.Goals as goal

pub returns-in_default-clause-err : goal.returns-in_default-clause-err
returns-in_default-clause-err g c =
    lacks_request c.args.printing
    (λ answer. (next : Machine g.row.M.Denot) × AnsweredLine (MachineStands g.M.Store.under g.M.Store.holds) (AnswersAs g.M.Store.conduct c.args.reading) c.args.machine c.args.line answer next) _ c.put_last.result _ _ (c.put_last.ensures.last c.args.steps.now) refl

pub returns-clause-ok : goal.returns-clause-ok
returns-clause-ok g c =
    ok_as _ _ c.answer_request.result
    (λ p joins. joins_as c.args.printing (λ answer. AnsweredRequest g.M.Store.under g.M.Store.holds g.M.Store.conduct c.args.machine c.in-Ok.request answer p.0)
    (λ answer. AnsweredLine (MachineStands g.M.Store.under g.M.Store.holds) (AnswersAs g.M.Store.conduct c.args.reading) c.args.machine c.args.line answer p.0) _ _ _ _ _
    (λ answer answered. line_answered g.M.Store.under g.M.Store.holds g.M.Store.conduct c.args.machine p.0 c.args.reading c.args.line c.in-Ok.request answer
    (subst (λ (o : Option Schema). AsksFor c.args.reading o c.args.line c.in-Ok.request) c.schema.ensures c.in-Ok.ensures.asks) answered) joins)
    c.answer_request.ensures.ok

pub returns-clause-err : goal.returns-clause-err
returns-clause-err g c =
    err_as _ _ c.answer_request.result
    (λ status fails. joins_not_as c.args.printing (λ answer. (next : Machine g.row.M.Denot) × AnsweredRequest g.M.Store.under g.M.Store.holds g.M.Store.conduct c.args.machine c.in-Ok.request answer next)
    (λ answer. (next : Machine g.row.M.Denot) × AnsweredLine (MachineStands g.M.Store.under g.M.Store.holds) (AnswersAs g.M.Store.conduct c.args.reading) c.args.machine c.args.line answer next) _ status _ _
    (λ answer made. (
      made.0,
      line_answered g.M.Store.under g.M.Store.holds g.M.Store.conduct c.args.machine made.0 c.args.reading c.args.line c.in-Ok.request answer
          (subst (λ (o : Option Schema). AsksFor c.args.reading o c.args.line c.in-Ok.request) c.schema.ensures c.in-Ok.ensures.asks) made.1,
    )) fails)
    c.answer_request.ensures.err
