-- When a machine over some store stands for the state of a run. What the store tells is given as functions.
use Rattle.std.specs.Prelude.{◌≡◌, Option, Some, None, option_map}
use Rattle.serde_json.specs.Data.{Data}
use Rattle.sk_base.specs.declared.command.Command.{Command}
use Rattle.sk_base.specs.declared.schema.Schema.{Schema}
use Rattle.sk_run.specs.declared.machine.Machine.{Machine}
use Rattle.sk_run.specs.declared.response.Response.{Response}
use Rattle.sk_run.specs.Lines.{IsReached}
use Rattle.sk_run.specs.Conducts.{Conduct, State, Does, Obeys}

-- Without a store nothing was accepted; a store has the schema, and holds the state under it.
abbrev pub StandsFor : {M S : Type 0} → (M → Schema) → (M → S → Type 0) → Option M → State S → Type 0
StandsFor under Holds None None = Unit {0}
StandsFor under Holds None (Some s) = ⊥
StandsFor under Holds (Some store) None = ⊥
StandsFor under Holds (Some store) (Some s) = (s.0 ≡ under store) × Holds store s.1

-- The machine stands for this state.
abbrev pub MachineStands : {M S : Type 0} → (M → Schema) → (M → S → Type 0) → Machine M → State S → Type 0
MachineStands under Holds machine s = StandsFor under Holds machine.store s

-- The schema that was accepted, if any.
abbrev pub schema_in : {M : Type 0} → (M → Schema) → Machine M → Option Schema
schema_in under machine = option_map under machine.store

-- From each state that a store holds, the command was answered as its conduct allows, and the store holds the state after it.
abbrev pub Did : {M S : Type 0} → (M → Schema) → (M → S → Type 0) → Conduct S → M → Command Data → Response → M → Type 0
Did {M} {S} under Holds conduct old command answer new = (s : S) → Holds old s → IsReached Holds (Does conduct (under old) s command answer) new

-- From each state that a store stands for, or none, a command was answered as that state allows.
abbrev pub Obeyed : {M S : Type 0} → (M → Schema) → (M → S → Type 0) → Conduct S → Option M → Command Data → Response → Machine M → Type 0
Obeyed {M} {S} under Holds conduct old command answer new = (s : State S) → StandsFor under Holds old s → IsReached (MachineStands under Holds) (Obeys conduct s command answer) new

-- The schema that a machine has when it has obeyed a command: the first that came.
abbrev pub schema_behind : {T : Type 0} → Option Schema → Command T → Option Schema
schema_behind None (Command.Schema schema parts) = Some schema
schema_behind None _ = None
schema_behind (Some schema) command = Some schema
