use Rattle.std.proofs.Common.{None, refl, false}
use Rattle.sk_run.specs.declared.response.Printing.TheVariants as Printing
use Rattle.sk_run.specs.Machines.{MachineStands}
use Rattle.sk_run.specs.Conducts.{Answers, AnswersQuery, Closes}
use Rattle.sk_run.proofs.SearchLemmas.{searched, not_searched}
use Rattle.sk_run.proofs.by_form.search.Goals as goal

pub returns-in-Ok : goal.returns-in-Ok
returns-in-Ok g c =
    searched Printing.WithoutOk (MachineStands g.M.Store.under g.M.Store.holds) (Answers g.M.Store.conduct) (AnswersQuery g.M.Store.conduct c.args.join) (Closes g.M.Store.conduct) c.new-first.result None c.new-first.ensures (g.R.Source.seen c.args.records.now) (g.R.Source.seen c.answer_lines.new.input) (g.S.Source.seen c.args.input.now) (g.S.Source.seen c.answer_to_end.new.input)
    c.in-Ok.machine false c.in-Ok.refused c.answer_to_end.result _ _ _ c.in-Ok.ensures.ok c.answer_to_end.ensures

pub returns-in-Err : goal.returns-in-Err
returns-in-Err g c =
    not_searched Printing.WithoutOk (MachineStands g.M.Store.under g.M.Store.holds) (Answers g.M.Store.conduct) (AnswersQuery g.M.Store.conduct c.args.join) (Closes g.M.Store.conduct) c.new-first.result None c.new-first.ensures (g.R.Source.seen c.args.records.now) (g.R.Source.seen c.answer_lines.new.input) (g.S.Source.seen c.args.input.now) (g.S.Source.seen c.args.input.now) refl
    false c.in-Err.stopped _ _ c.in-Err.ensures.err
