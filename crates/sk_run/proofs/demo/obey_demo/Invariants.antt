use Rattle.std.proofs.Common.{◌≡◌, ◌≤◌, None}
use Rattle.sk_run.specs.declared.response.Printing.TheVariants as Printing
use Rattle.sk_run.specs.Machines.{MachineStands, schema_in}
use Rattle.sk_run.specs.Conducts.{Obeys}
use Rattle.sk_run.proofs.DemoLemmas.{schema_before, DemoSoFar}
use Rattle.sk_run.proofs.demo.obey_demo.Given as goal

abbrev pub invariant-commands : goal.invariant-commands
invariant-commands g l = record {
  schema : schema_in g.M.Store.under l.machine ≡ schema_before l.place;
  write_later : (g.K.Sink.seen l.fn.output).faults ≤ (g.K.Sink.seen l.output).faults;
  finishes : (g.K.Sink.seen l.output).finishes ≡ (g.K.Sink.seen l.fn.output).finishes;
  so_far : DemoSoFar Printing.WithoutOk (MachineStands g.M.Store.under g.M.Store.holds) (Obeys g.M.Store.conduct)
      None l.documents (g.K.Sink.seen l.fn.output).held l.fn.steps l.place l.waiting (g.K.Sink.seen l.output).held l.machine l.refused l.steps;
}
