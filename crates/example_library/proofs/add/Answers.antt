use Rattle.std.proofs.Common.{IfOk, subst}
use Rattle.sk_base.specs.declared.record.Edit.{Edit}
use Rattle.sk_run.specs.Held.{Held, edited_held}
use Rattle.sk_engine.specs.Sessions.{SessionHolds}
use Rattle.example_library.specs.Example.{bodies}
use Rattle.example_library.proofs.add.Goals as goal

pub returns-clause-holds : goal.returns-clause-holds
returns-clause-holds c =
    subst (λ (e : Edit). IfOk c.after.result (λ more. (held : Held) → SessionHolds c.args.session held → SessionHolds more (edited_held bodies held e)))
    c.in_ok-edit.ensures c.after.ensures.holds
