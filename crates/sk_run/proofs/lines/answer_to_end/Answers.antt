use Rattle.sk_run.specs.Machines.{MachineStands}
use Rattle.sk_run.specs.Conducts.{AnswersAs, Closes}
use Rattle.sk_run.proofs.LineEndLemmas.{closed_behind, stopped_in}
use Rattle.sk_run.proofs.lines.answer_to_end.Goals as goal

pub returns-in-Ok : goal.returns-in-Ok
returns-in-Ok g c =
    closed_behind c.args.printing (MachineStands g.M.Store.under g.M.Store.holds) (AnswersAs g.M.Store.conduct c.args.reading) (Closes g.M.Store.conduct) c.args.first (g.S.Source.seen c.args.input.now) (g.S.Source.seen c.answer_lines.new.input) c.in-Ok.machine c.args.refused c.in-Ok.refused c.close.result _ _ _ c.in-Ok.ensures.ok (c.close.ensures _)

pub returns-in-Err : goal.returns-in-Err
returns-in-Err g c =
    stopped_in c.args.printing (MachineStands g.M.Store.under g.M.Store.holds) (AnswersAs g.M.Store.conduct c.args.reading) (Closes g.M.Store.conduct) c.args.first (g.S.Source.seen c.args.input.now) (g.S.Source.seen c.answer_lines.new.input) c.args.refused c.in-Err.status _ _ c.in-Err.ensures.err
