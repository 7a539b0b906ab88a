use Rattle.std.proofs.Common.{IfOk, subst, sym}
use Rattle.serde_json.specs.View.{view}
use Rattle.serde_json.specs.declared.value.Value.{Value}
use Rattle.sk_base.specs.declared.command.FlightCommand.{FlightCommand}
use Rattle.sk_base.specs.Commands.{flight_over}
use Rattle.sk_run.specs.Held.{Held, FliesHeld}
use Rattle.sk_run.specs.Lines.{IsReached}
use Rattle.sk_reference.specs.Searches.{Stands, Tells}
use Rattle.sk_reference.specs.Shelved.{holds, schema_of}
use Rattle.sk_reference.proofs.HeldLaws.{closes_flies}
use Rattle.sk_reference.proofs.store.ShelfStore.fly.Goals as goal

pub returns-in-Close-clause-flies : goal.returns-in-Close-clause-flies
returns-in-Close-clause-flies g c =
    subst
    (λ (command : FlightCommand Value). IfOk c.close_search.result (λ answer. (s : Held) → holds c.args.self.now s
    → IsReached holds (FliesHeld Stands Tells (schema_of c.args.self.now) s (flight_over view command) answer) c.close_search.new.self))
    (sym c.in-Close.is)
    (closes_flies c.args.self.now c.close_search.new.self (schema_of c.args.self.now) c.in-Close.number c.close_search.result c.close_search.ensures.closes c.close_search.ensures.unread
    c.close_search.ensures.told)
