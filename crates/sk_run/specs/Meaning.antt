-- What a line means: nothing, a refusal, or a command.
use Rattle.std.specs.Prelude.{ℕ, Bool, ◌||◌, ◌==◌, nat_lt, List, length, Option, Result, Ok, Err, if◌then◌else◌}
use Rattle.std.specs.List.{list_all}
use Rattle.sk_io.specs.LineText.{most_line}
use Rattle.sk_base.specs.declared.schema.Schema.{Schema}
use Rattle.sk_record.specs.declared.fault.LineFault.{LineFault}
use Rattle.sk_record.specs.Lines.{line_value}
use Rattle.serde_json.specs.Data.{Data}
use Rattle.sk_base.specs.declared.command.Command.{Command}
use Rattle.sk_record.specs.Outcome.{outcome}
use Rattle.sk_run.specs.declared.refusal.Refusal.{Refusal}

-- What a line can mean: nothing, a refusal, or a command.
pub data Meaning : Type 0 where
  blank : Meaning
  refusal : Refusal → Meaning
  asks : Command Data → Meaning
  -- No line means this: want of memory is no meaning.
  unread : Meaning

-- A line of nothing but tabs (9), carriage returns (13) and spaces (32).
abbrev pub is_blank : List ℕ → Bool
is_blank line = list_all (λ b. b == 9 || b == 13 || b == 32) line

-- The first fault of a line refuses it.
abbrev pub meaning_of : Result (Command Data) LineFault → Meaning
meaning_of (Ok command) = asks command
meaning_of (Err LineFault.NotJson) = refusal Refusal.NotJson
meaning_of (Err LineFault.NoSchema) = refusal Refusal.NoSchema
meaning_of (Err LineFault.SchemaAgain) = refusal Refusal.SchemaAgain
meaning_of (Err LineFault.BadShape) = refusal Refusal.BadShape
meaning_of (Err LineFault.BadField) = refusal Refusal.BadField
meaning_of (Err LineFault.NoMemory) = unread

-- The first of these that stands decides: too long, blank, the first fault of a command line, a command.
abbrev pub meaning : Option Schema → List ℕ → Meaning
meaning schema line =
    if nat_lt most_line (length line) then refusal Refusal.TooLong
    else (if is_blank line then blank else meaning_of (outcome schema (line_value line)))
