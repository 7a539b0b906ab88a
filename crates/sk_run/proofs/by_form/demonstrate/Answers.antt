use Rattle.std.proofs.Common.{None, false}
use Rattle.sk_run.specs.declared.response.Printing.TheVariants as Printing
use Rattle.sk_run.specs.Machines.{MachineStands}
use Rattle.sk_run.specs.Conducts.{Obeys, Closes}
use Rattle.sk_run.specs.Demos.{demo_commands}
use Rattle.sk_run.proofs.LineEndLemmas.{demo_closed, demo_stopped}
use Rattle.sk_run.proofs.by_form.demonstrate.Goals as goal

pub returns-in-Ok : goal.returns-in-Ok
returns-in-Ok g c =
    demo_closed Printing.WithoutOk (MachineStands g.M.Store.under g.M.Store.holds) (Obeys g.M.Store.conduct) (Closes g.M.Store.conduct) None (demo_commands c.args.documents) c.in-Ok.machine false c.in-Ok.refused c.close.result _ _ _ c.in-Ok.ensures.ok (c.close.ensures _)

pub returns-in-Err : goal.returns-in-Err
returns-in-Err g c = demo_stopped Printing.WithoutOk (MachineStands g.M.Store.under g.M.Store.holds) (Obeys g.M.Store.conduct) (Closes g.M.Store.conduct) None (demo_commands c.args.documents) false c.in-Err.status _ _ c.in-Err.ensures.err
