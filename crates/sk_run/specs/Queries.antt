-- What a line means that is a query text.
use Rattle.std.specs.Prelude.{ℕ, nat_lt, List, length, Option, Some, None, if◌then◌else◌}
use Rattle.std.specs.Str.{is_utf8}
use Rattle.serde_json.specs.Data.{Data}
use Rattle.sk_io.specs.LineText.{most_line}
use Rattle.sk_base.specs.declared.command.Command.TheVariants as Command
use Rattle.sk_base.specs.declared.command.Question.TheVariants as Question
use Rattle.sk_base.specs.declared.find.Ask.TheVariants as Ask
use Rattle.sk_base.specs.declared.find.Find.{Find}
use Rattle.sk_base.specs.declared.find.Join.{Join}
use Rattle.sk_base.specs.declared.schema.Schema.{Schema}
use Rattle.sk_base.specs.Finds.{default_paging}
use Rattle.sk_run.specs.declared.refusal.Refusal.TheVariants as Refusal
use Rattle.sk_run.specs.Meaning.{Meaning, refusal, asks}

-- The find of a text, with the page of a find that says nothing of it.
abbrev pub find_by : Join → List ℕ → Find Data
find_by join text = record { ask = Ask.Text text join; paging = default_paging }

-- What a text means under a schema, if any was accepted: the find of it, where it is UTF-8.
abbrev pub text_meaning : Join → Option Schema → List ℕ → Meaning
text_meaning join None line = refusal Refusal.NoSchema
text_meaning join (Some schema) line = if is_utf8 line then asks (Command.Ask (Question.Find (find_by join line))) else refusal Refusal.BadShape

-- What a line means that is a query text: the first of these that stands decides. A blank line is a text like all others.
abbrev pub query_meaning : Join → Option Schema → List ℕ → Meaning
query_meaning join schema line = if nat_lt most_line (length line) then refusal Refusal.TooLong else text_meaning join schema line
