-- What a line asks for, and how that is answered.
use Rattle.std.specs.Prelude.{◌≡◌, ℕ, ◌<◌, Bool, true, false, List, length, Option}
use Rattle.sk_base.specs.declared.command.Command.{Command}
use Rattle.sk_base.specs.declared.schema.Schema.{Schema}
use Rattle.sk_io.specs.declared.line.Line.{Line}
use Rattle.sk_io.specs.declared.line.Line.TheVariants.{Whole, TooLong}
use Rattle.sk_io.specs.LineText.{most_line}
use Rattle.sk_record.specs.Outcome.{MayCome}
use Rattle.serde_json.specs.View.{view}
use Rattle.sk_base.specs.Commands.{command_over}
use Rattle.sk_run.specs.declared.request.Request.{Request}
use Rattle.sk_run.specs.declared.request.Request.TheVariants.{Blank, Refused, Asks}
use Rattle.sk_run.specs.declared.machine.Machine.{Machine}
use Rattle.sk_run.specs.declared.machine.Reading.{Reading}
use Rattle.sk_run.specs.declared.machine.Reading.TheVariants.{Commands, Queries}
use Rattle.sk_run.specs.declared.response.Response.{Response}
use Rattle.sk_run.specs.Lines.{IsReached}
use Rattle.sk_run.specs.Meaning.{Meaning, blank, refusal, asks, meaning}
use Rattle.sk_run.specs.Queries.{query_meaning}
use Rattle.sk_run.specs.Conducts.{Conduct, State, Obeys, reads}
use Rattle.sk_run.specs.Machines.{MachineStands, schema_behind}

-- What a line means that asks for this.
abbrev pub meant : Request → Meaning
meant Blank = blank
meant (Refused why) = refusal why
meant (Asks command) = asks (command_over view command)

-- What a line means that is read so.
abbrev pub meaning_as : Reading → Option Schema → List ℕ → Meaning
meaning_as Commands schema line = meaning schema line
meaning_as (Queries join) schema line = query_meaning join schema line

-- A whole line asks for this by what it means, or any line that is too long does.
abbrev pub AsksFor : Reading → Option Schema → Line → Request → Type 0
AsksFor reading schema (Whole text) request = meaning_as reading schema text.now ≡ meant request
AsksFor reading schema TooLong request = (text : List ℕ) → most_line < length text → meaning_as reading schema text ≡ meant request

-- It may be asked for under the schema that was accepted, if any.
abbrev pub MayBeAsked : Option Schema → Request → Type 0
MayBeAsked schema Blank = Unit {0}
MayBeAsked schema (Refused why) = Unit {0}
MayBeAsked schema (Asks command) = MayCome schema command

-- Whether readings may be made or told for it: a question that reads, and what asks for searches in flight.
abbrev pub may_read : Request → Bool
may_read Blank = false
may_read (Refused why) = false
may_read (Asks (Command.Schema schema parts)) = false
may_read (Asks (Command.Edit edit)) = false
may_read (Asks (Command.Ask question)) = reads question
may_read (Asks (Command.Flight command)) = true

-- What is answered to a request, and the state that it leaves.
abbrev pub AnswersRequest : {S : Type 0} → Conduct S → State S → Request → Response → State S → Type 0
AnswersRequest conduct s Blank answer next = (answer ≡ Response.Skipped) × (next ≡ s)
AnswersRequest conduct s (Refused why) answer next = (answer ≡ Response.Refused why) × (next ≡ s)
AnswersRequest conduct s (Asks command) answer next = Obeys conduct s (command_over view command) answer next

-- From each state that a machine stands for, a request was answered as that state allows.
abbrev pub AnsweredRequest : {M S : Type 0} → (M → Schema) → (M → S → Type 0) → Conduct S → Machine M → Request → Response → Machine M → Type 0
AnsweredRequest {M} {S} under Holds conduct old request answer new = (s : State S) → MachineStands under Holds old s → IsReached (MachineStands under Holds) (AnswersRequest conduct s request answer) new

-- The schema that a machine has when it has answered a request.
abbrev pub schema_after : Option Schema → Request → Option Schema
schema_after schema Blank = schema
schema_after schema (Refused why) = schema
schema_after schema (Asks command) = schema_behind schema command
