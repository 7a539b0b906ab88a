use Rattle.std.proofs.Common.{None, Some, false, refl, sym, ◌∙◌, ap}
use Rattle.sk_run.specs.Outsides.{outside_at}
use Rattle.sk_run.specs.declared.form.Form.TheVariants as Form
use Rattle.sk_run.specs.declared.response.Printing.TheVariants as Printing
use Rattle.sk_run.specs.Machines.{MachineStands}
use Rattle.sk_run.specs.Conducts.{Answers, Closes}
use Rattle.sk_run.proofs.LineEndLemmas.{from_one}
use Rattle.sk_run.proofs.RanLemmas.{used}
use Rattle.sk_run.proofs.by_form.run.Goals as goal

pub returns-in-Some-Run-clause-ran : goal.returns-in-Some-Run-clause-ran
returns-in-Some-Run-clause-ran g c =
    used g.M.Store.conduct _ Form.Run c.answer_to_end.result (outside_at (g.S.Source.seen c.args.input.now) (g.R.Source.seen c.args.records.now) (g.K.Sink.seen c.args.output.now) c.args.steps.now)
    (outside_at (g.S.Source.seen c.answer_to_end.new.input) (g.R.Source.seen c.args.records.now) (g.K.Sink.seen c.answer_to_end.new.output) c.answer_to_end.new.steps)
    (sym c.form_of.ensures ∙ c.in-Some-Run.is ∙ ap Some c.in-Some-Run.field-0-is)
    (from_one Printing.All (MachineStands g.M.Store.under g.M.Store.holds) (Answers g.M.Store.conduct) (Closes g.M.Store.conduct) c.new.result (g.S.Source.seen c.args.input.now) (g.S.Source.seen c.answer_to_end.new.input) None c.new.ensures false c.answer_to_end.result _ _ c.answer_to_end.ensures)
    refl

pub returns-in-Some-Search-clause-ran : goal.returns-in-Some-Search-clause-ran
returns-in-Some-Search-clause-ran g c =
    used g.M.Store.conduct _ (Form.Search c.in-Some-Search.join) c.search.result (outside_at (g.S.Source.seen c.args.input.now) (g.R.Source.seen c.args.records.now) (g.K.Sink.seen c.args.output.now) c.args.steps.now)
    (outside_at (g.S.Source.seen c.search.new.input) (g.R.Source.seen c.search.new.records) (g.K.Sink.seen c.search.new.output) c.search.new.steps)
    (sym c.form_of.ensures ∙ c.in-Some-Search.is ∙ ap Some c.in-Some-Search.field-0-is) c.search.ensures tt

pub returns-in-Some-Demo-clause-ran : goal.returns-in-Some-Demo-clause-ran
returns-in-Some-Demo-clause-ran g c =
    used g.M.Store.conduct _ (Form.Demo c.in-Some-Demo.documents) c.demonstrate.result (outside_at (g.S.Source.seen c.args.input.now) (g.R.Source.seen c.args.records.now) (g.K.Sink.seen c.args.output.now) c.args.steps.now)
    (outside_at (g.S.Source.seen c.args.input.now) (g.R.Source.seen c.args.records.now) (g.K.Sink.seen c.demonstrate.new.output) c.demonstrate.new.steps)
    (sym c.form_of.ensures ∙ c.in-Some-Demo.is ∙ ap Some c.in-Some-Demo.field-0-is) c.demonstrate.ensures (refl, refl)
