-- What a line gives: the command, or its first fault.
use Rattle.std.specs.Prelude.{◌≡◌, List, [], Option, Some, None, Result, Ok, Err, codes, if◌then◌else◌}
use Rattle.serde_json.specs.Data.{Data}
use Rattle.serde_json.specs.View.{view}
use Rattle.serde_json.specs.declared.value.Value.{Value}
use Rattle.sk_base.specs.declared.command.Command.{Command}
use Rattle.sk_base.specs.declared.schema.Field.{Field}
use Rattle.sk_base.specs.declared.schema.Schema.{Schema}
use Rattle.sk_base.specs.Commands.{FitsParts, FitsQuestion, FitsFlight, command_over}
use Rattle.sk_base.specs.Fields.{IsSchema}
use Rattle.sk_base.specs.Records.{FitsEdit}
use Rattle.sk_record.specs.declared.fault.LineFault.{LineFault}
use Rattle.sk_json.specs.Values.{has}
use Rattle.sk_record.specs.Shapes.{Shape}
use Rattle.sk_record.specs.Rows.{row_shape}
use Rattle.sk_record.specs.FieldRules.{command_of}

-- The command, or the rule on fields that was broken.
abbrev pub command_or_broken : Option (Command Data) → Result (Command Data) LineFault
command_or_broken None = Err LineFault.BadField
command_or_broken (Some command) = Ok command

-- The shape is asked for first, and then the rules on fields.
abbrev pub command_by_shape : List Field → Option Shape → Result (Command Data) LineFault
command_by_shape fields None = Err LineFault.BadShape
command_by_shape fields (Some shape) = command_or_broken (command_of fields shape)

-- What a value gives, under the schema that was accepted before, if any.
abbrev pub value_outcome : Option Schema → Data → Result (Command Data) LineFault
value_outcome None d = if has (codes "schema") d then command_by_shape [] (row_shape d) else Err LineFault.NoSchema
value_outcome (Some schema) d = if has (codes "schema") d then Err LineFault.SchemaAgain else command_by_shape schema.fields (row_shape d)

-- What a line gives that is read as this value.
abbrev pub outcome : Option Schema → Option Data → Result (Command Data) LineFault
outcome schema None = Err LineFault.NotJson
outcome schema (Some d) = value_outcome schema d

-- The answer is the outcome, a tree by the value that it stands for. Memory may run out at any time.
abbrev pub CommandReadsAs : Result (Command Data) LineFault → Result (Command Value) LineFault → Type 0
CommandReadsAs outcome (Ok command) = outcome ≡ Ok (command_over view command)
CommandReadsAs outcome (Err LineFault.NoMemory) = Unit {0}
CommandReadsAs outcome (Err fault) = outcome ≡ Err fault

-- Before a schema was accepted a command can only bring one; afterwards an edit fits it, and what is asked, also of
-- searches in flight, keeps its bounds.
abbrev pub MayCome : {T : Type 0} → Option Schema → Command T → Type 0
MayCome None (Command.Schema given parts) = IsSchema given × FitsParts parts
MayCome None (Command.Edit edit) = ⊥
MayCome None (Command.Ask question) = ⊥
MayCome None (Command.Flight asked) = ⊥
MayCome (Some schema) (Command.Schema given parts) = ⊥
MayCome (Some schema) (Command.Edit edit) = FitsEdit schema edit
MayCome (Some schema) (Command.Ask question) = FitsQuestion question
MayCome (Some schema) (Command.Flight asked) = FitsFlight asked
