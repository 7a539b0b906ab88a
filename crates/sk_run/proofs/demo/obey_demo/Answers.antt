use Rattle.std.proofs.Common.{arith, ap, refl, sym, ◌∙◌, subst, None, Option}
use Rattle.std.proofs.lemmas.Result.{err_from_is_err_and}
use Rattle.serde_json.specs.Data.{Data}
use Rattle.serde_json.specs.View.{view}
use Rattle.sk_base.specs.declared.command.Command.{Command}
use Rattle.sk_base.specs.Commands.{command_over}
use Rattle.sk_base.specs.declared.schema.Schema.{Schema}
use Rattle.sk_record.specs.Outcome.{MayCome}
use Rattle.sk_run.specs.Outsides.{output_at}
use Rattle.sk_run.specs.declared.response.Printing.TheVariants as Printing
use Rattle.sk_run.specs.Machines.{MachineStands, schema_behind}
use Rattle.sk_run.specs.Conducts.{Obeys}
use Rattle.sk_run.proofs.MachineLemmas.{schema_in_state}
use Rattle.sk_run.proofs.DemoLemmas.{schema_before, comes_as, behind_as, comes, next_schema, demo_none, demo_at_once, demo_more, demo_last, demo_within, demo_unput, demo_ended}
use Rattle.sk_run.proofs.demo.obey_demo.Goals as goal

pub returns-in_default-clause-err : goal.returns-in_default-clause-err
returns-in_default-clause-err g c = demo_at_once Printing.WithoutOk (MachineStands g.M.Store.under g.M.Store.holds) (Obeys g.M.Store.conduct) None c.args.documents _ _ refl

pub commands-init : goal.commands-init
commands-init g c = record {
  schema = schema_in_state g.M.Store.under g.M.Store.holds g.M.Store.conduct c.new-machine.result.store None c.new-machine.ensures;
  write_later = omega arith;
  finishes = refl;
  so_far = demo_none Printing.WithoutOk (MachineStands g.M.Store.under g.M.Store.holds) (Obeys g.M.Store.conduct) None c.args.documents _ _ _ _ c.in-Ok.ensures c.new-machine.ensures;
}

pub answer_request-requires : goal.answer_request-requires
answer_request-requires g c =
    subst (λ (s : Option Schema). MayCome s c.in-Ok-demo_command.command) (sym c.commands.invariant.schema)
    (comes_as view (schema_before c.commands.place) c.in-Ok-demo_command.command
    (subst (λ (k : Command Data). MayCome (schema_before c.commands.place) k) (sym c.in-Ok-demo_command.ensures) (comes c.args.documents c.commands.place)))

pub commands-preserved : goal.commands-preserved
commands-preserved g c =
    let so = c.commands.invariant in
    let joins = c.in_ok-next.ensures.ok in
    record {
      schema =
          c.in_ok-next.ensures.schema ∙ ap (λ (s : Option Schema). schema_behind s c.in-Ok-demo_command.command) so.schema
          ∙ behind_as view (schema_before c.commands.place) c.in-Ok-demo_command.command
          ∙ ap (λ (k : Command Data). schema_behind (schema_before c.commands.place) k) c.in-Ok-demo_command.ensures ∙ next_schema c.args.documents c.commands.place;
      write_later = omega (arith, so.write_later, joins.later);
      finishes = joins.finishes ∙ so.finishes;
      so_far =
          demo_more Printing.WithoutOk (MachineStands g.M.Store.under g.M.Store.holds) (Obeys g.M.Store.conduct) None c.args.documents _ _ c.commands.place c.commands.waiting _ c.commands.machine c.in_ok-next.next c.commands.refused c.in_ok-next.refuses
          (output_at (g.K.Sink.seen c.commands.output) c.commands.steps)
          (output_at (g.K.Sink.seen c.answer_request.new.output) c.answer_request.new.steps)
          (command_over view c.in-Ok-demo_command.command) c.commands-test.true so.so_far c.in-Ok-demo_command.ensures joins;
    }

pub returns-in_default-demo_command-clause-err : goal.returns-in_default-demo_command-clause-err
returns-in_default-demo_command-clause-err g c =
    let so = c.commands.invariant in
    demo_last Printing.WithoutOk (MachineStands g.M.Store.under g.M.Store.holds) (Obeys g.M.Store.conduct) None c.args.documents c.commands.place c.commands.waiting c.commands.machine c.commands.refused (output_at (g.K.Sink.seen c.args.output.now) c.args.steps.now)
    (output_at (g.K.Sink.seen c.commands.output) c.commands.steps)
    (output_at (g.K.Sink.seen c.put_last.new.output) c.commands.steps)
    so.so_far so.finishes so.write_later
    c.put_last.result (c.put_last.ensures.last c.commands.steps) refl

pub returns-in_err-next-clause-err : goal.returns-in_err-next-clause-err
returns-in_err-next-clause-err g c =
    let so = c.commands.invariant in
    let p = err_from_is_err_and c.from_residual.result c.from_residual.ensures.1 in
    rw (p.1, p.2)
    (demo_within Printing.WithoutOk (MachineStands g.M.Store.under g.M.Store.holds) (Obeys g.M.Store.conduct) None c.args.documents c.commands.place c.commands.waiting c.commands.machine c.commands.refused (output_at (g.K.Sink.seen c.args.output.now) c.args.steps.now)
    (output_at (g.K.Sink.seen c.commands.output) c.commands.steps)
    (output_at (g.K.Sink.seen c.answer_request.new.output) c.answer_request.new.steps)
    so.so_far so.finishes so.write_later
    (command_over view c.in-Ok-demo_command.command) c.commands-test.true c.in-Ok-demo_command.ensures _ c.in_err-next.ensures.err)

pub returns-in_default-put-clause-err : goal.returns-in_default-put-clause-err
returns-in_default-put-clause-err g c =
    let so = c.commands.invariant in
    demo_unput Printing.WithoutOk (MachineStands g.M.Store.under g.M.Store.holds) (Obeys g.M.Store.conduct) None c.args.documents c.commands.place c.commands.waiting c.commands.machine c.commands.refused (output_at (g.K.Sink.seen c.args.output.now) c.args.steps.now)
    (output_at (g.K.Sink.seen c.commands.output) c.commands.steps)
    (output_at (g.K.Sink.seen c.put.new.output) c.commands.steps)
    so.so_far so.finishes so.write_later
    c.in_default-put.ensures.err refl c.put.ensures.finishes (c.in_default-put.ensures.cause.failed refl)

pub returns-clause-ok : goal.returns-clause-ok
returns-clause-ok g c =
    let so = c.commands.invariant in
    demo_ended Printing.WithoutOk (MachineStands g.M.Store.under g.M.Store.holds) (Obeys g.M.Store.conduct) None c.args.documents c.commands.place c.commands.waiting c.commands.machine c.commands.refused (output_at (g.K.Sink.seen c.args.output.now) c.args.steps.now)
    (output_at (g.K.Sink.seen c.commands.output) c.commands.steps)
    (output_at (g.K.Sink.seen c.put.new.output) c.commands.steps)
    so.so_far so.finishes so.write_later
    (omega (arith, c.commands-test.false, c.commands.auto.place-end)) c.in-Ok-put.ensures.ok refl c.put.ensures.finishes c.put.ensures.cause.later
