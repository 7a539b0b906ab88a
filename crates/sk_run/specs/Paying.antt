-- That the answers of a run tell of all readings that were made for it.
use Rattle.std.specs.Prelude.{◌≡◌, ◌+◌, ℕ}
use Rattle.serde_json.specs.Data.{Data}
use Rattle.sk_base.specs.declared.command.FlightCommand.{FlightCommand}
use Rattle.sk_base.specs.declared.record.Edit.{Edit}
use Rattle.sk_base.specs.declared.record.Reply.{Reply}
use Rattle.sk_base.specs.declared.schema.Schema.{Schema}
use Rattle.sk_run.specs.declared.response.Response.{Response}
use Rattle.sk_run.specs.Responses.{reads_of, steps_of}
use Rattle.sk_run.specs.Conducts.{Conduct}

-- A store of this conduct owes so many readings in each state: those that no answer told of as yet. At first it owes none, edits make none, what searches in flight read is told or owed, and what closes a run tells of all that is owed.
pub record Pays {S : Type 0} (conduct : Conduct S) (owed : S → ℕ) : Type 0 where
  pub none : (parts : ℕ) → owed (conduct.begun parts) ≡ 0
  pub edits : (schema : Schema) (s : S) (edit : Edit) (reply : Reply) (next : S) → conduct.edits schema s edit reply next → owed next ≡ owed s
  pub flies : (schema : Schema) (s : S) (command : FlightCommand Data) (answer : Response) (next : S) → conduct.flies schema s command answer next
      → owed next + steps_of answer ≡ owed s + reads_of answer
  pub closes : (schema : Schema) (s : S) (answer : Response) → conduct.closes schema s answer → steps_of answer ≡ owed s + reads_of answer
