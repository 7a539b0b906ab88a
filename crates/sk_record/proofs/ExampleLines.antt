-- How examples of lines are written.
use Rattle.std.proofs.Common.{◌≡◌, ℕ, ◌==◌, cond, Bool, true, false, ◌∷◌, [], List, Option, Some, None, Result, Ok, Err, map, codes}
use Rattle.std.specs.Str.{is_utf8, chars}
use Rattle.std.specs.Float.{float_is_finite}
use Rattle.std.specs.Float.Numeral.{scan_numeral}
use lib.Utf8.{encode}
use lib.Ieee.{span, climb, size, odd, units, round}
use Rattle.json.specs.Lex.{lex, punctuate}
use Rattle.json.specs.Json.{items, members, value}
use Rattle.json.specs.Text.{content, short_escape, code_unit}
use Rattle.json.specs.Word.{word, after_number}
use Rattle.serde_json.specs.Data.{Data, null}
use Rattle.serde_json.specs.Read.{number_of}
use Rattle.sk_base.specs.declared.command.Command.{Command}
use Rattle.sk_base.specs.declared.command.FlightCommand.{FlightCommand}
use Rattle.sk_base.specs.declared.command.Question.{Question}
use Rattle.sk_base.specs.declared.facets.ValueKind.{ValueKind}
use Rattle.sk_base.specs.declared.find.Ask.{Ask}
use Rattle.sk_base.specs.declared.find.Collapse.{Collapse}
use Rattle.sk_base.specs.declared.find.Options.{Options}
use Rattle.sk_base.specs.declared.find.Scheme.{Scheme}
use Rattle.sk_base.specs.declared.find.Join.{Join}
use Rattle.sk_base.specs.declared.rank.Order.{Order}
use Rattle.sk_base.specs.declared.rank.OrderBy.{OrderBy}
use Rattle.sk_base.specs.declared.rank.SortKey.{SortKey}
use Rattle.sk_base.specs.declared.record.Edit.{Edit}
use Rattle.sk_base.specs.declared.record.Entry.{Entry}
use Rattle.sk_base.specs.declared.record.FieldValue.{FieldValue}
use Rattle.sk_base.specs.declared.schema.Field.{Field}
use Rattle.sk_base.specs.declared.schema.FieldKind.{FieldKind}
use Rattle.sk_base.specs.declared.schema.Schema.{Schema}
use Rattle.sk_record.specs.declared.fault.LineFault.{LineFault}
use Rattle.sk_record.specs.Lines.{line_value}
use Rattle.sk_record.specs.Outcome.{outcome}

-- What is unfolded to read a line.
unfoldable pub on_lines : Unit {0}
unfolding is_utf8 chars encode lex punctuate items members value content short_escape code_unit word after_number number_of scan_numeral float_is_finite span climb size odd units round
on_lines = tt

-- The line, with a " for each '.
abbrev pub quoted : List ℕ → List ℕ
quoted text = map (λ x. cond (x == 39) 34 x) text

-- A line, and what it gives.
pub record Row : Type 0 where
  pub line : List ℕ
  pub told : Result (Command Data) LineFault

-- The line of this text gives this.
abbrev pub row : List ℕ → Result (Command Data) LineFault → Row
row text told = record { line = quoted text; told = told }

-- Under these fields, the lines give what stands beside them.
abbrev pub AreGiven : Option Schema → List Row → Type 0
AreGiven schema rows = map (λ (one : Row). outcome schema (line_value one.line)) rows ≡ map Row.told rows

-- ---- what a line gives

abbrev pub not_json : Result (Command Data) LineFault
not_json = Err LineFault.NotJson

abbrev pub no_schema : Result (Command Data) LineFault
no_schema = Err LineFault.NoSchema

abbrev pub schema_again : Result (Command Data) LineFault
schema_again = Err LineFault.SchemaAgain

abbrev pub bad_shape : Result (Command Data) LineFault
bad_shape = Err LineFault.BadShape

abbrev pub bad_field : Result (Command Data) LineFault
bad_field = Err LineFault.BadField

-- a schema
abbrev pub field : List ℕ → FieldKind → Field
field name kind = record { name = name; kind = kind }

abbrev pub opened : List Field → Result (Command Data) LineFault
opened fields = Ok (Command.Schema (record { fields = fields; stem = false }) 1)

abbrev pub opened_stemming : List Field → Result (Command Data) LineFault
opened_stemming fields = Ok (Command.Schema (record { fields = fields; stem = true }) 1)

abbrev pub opened_in : ℕ → List Field → Result (Command Data) LineFault
opened_in parts fields = Ok (Command.Schema (record { fields = fields; stem = false }) parts)

-- an edit
abbrev pub entry : ℕ → FieldValue → Entry
entry place value = record { field = place; value = value }

abbrev pub added : List Entry → List ℕ → Result (Command Data) LineFault
added values payload = Ok (Command.Edit (Edit.Add (record { values = values; payload = payload })))

abbrev pub replaced : ℕ → List Entry → List ℕ → Result (Command Data) LineFault
replaced id values payload = Ok (Command.Edit (Edit.Replace id (record { values = values; payload = payload })))

abbrev pub replaced_by : List ℕ → List Entry → List ℕ → Result (Command Data) LineFault
replaced_by term values payload = Ok (Command.Edit (Edit.ReplaceBy term (record { values = values; payload = payload })))

abbrev pub deleted : ℕ → Result (Command Data) LineFault
deleted id = Ok (Command.Edit (Edit.Delete id))

abbrev pub deleted_by : List ℕ → Result (Command Data) LineFault
deleted_by term = Ok (Command.Edit (Edit.DeleteBy term))

-- a find
abbrev pub plain : Options
plain = record { scheme = Scheme.Nnn; first = 0; size = 10; check = 0; cutoff = 0 }

-- ids rise
abbrev pub rising : OrderBy → Order
rising by = record { by = by; falling = false }

abbrev pub relevance : Order
relevance = rising OrderBy.Relevance

abbrev pub key : ℕ → Bool → SortKey
key slot reverse = record { slot = slot; reverse = reverse }

abbrev pub collapsed_on : ℕ → ℕ → Option Collapse
collapsed_on slot max = Some (record { slot = slot; max = max })

abbrev tree_from : Option Data → Data
tree_from None = null
tree_from (Some d) = d

-- the tree that is read from this text
abbrev pub tree_of : List ℕ → Ask Data
tree_of text = Ask.Tree (tree_from (line_value (quoted text)))

abbrev pub sought : Ask Data → Options → Order → Option Collapse → Result (Command Data) LineFault
sought ask options order collapse = Ok (Command.Ask (Question.Find (record { ask = ask; paging = record { options = options; order = order; collapse = collapse } })))

-- a find with every option as it is where nothing is said
abbrev pub found : Ask Data → Result (Command Data) LineFault
found ask = sought ask plain relevance None

abbrev pub shown : List ℕ → Join → Result (Command Data) LineFault
shown text join = Ok (Command.Ask (Question.Show text join))

-- how often each value stands
abbrev pub faceted : List ℕ → Join → ℕ → ValueKind → ℕ → Result (Command Data) LineFault
faceted text join slot kind size = Ok (Command.Ask (Question.Facets (record { text = text; join = join; slot = slot; kind = kind; size = size })))

-- a search in flight that is opened, with what a find has
abbrev pub opened_search : Ask Data → Options → Order → Option Collapse → Result (Command Data) LineFault
opened_search ask options order collapse =
    Ok (Command.Flight (FlightCommand.Open (record { ask = ask; paging = record { options = options; order = order; collapse = collapse } })))

-- so many turns of a search
abbrev pub turned : ℕ → ℕ → Result (Command Data) LineFault
turned n times = Ok (Command.Flight (FlightCommand.Turn n times))

abbrev pub closed : ℕ → Result (Command Data) LineFault
closed n = Ok (Command.Flight (FlightCommand.Close n))

abbrev pub dropped : ℕ → Result (Command Data) LineFault
dropped n = Ok (Command.Flight (FlightCommand.Drop n))

-- ---- the schema of most lines

abbrev pub schema : Schema
schema =
    record {
      fields =
          field (codes "body") (FieldKind.Text [] 1) ∷ field (codes "lang") (FieldKind.Filter (codes "L")) ∷ field (codes "year") (FieldKind.Number 0)
          ∷ field (codes "site") (FieldKind.Word 1) ∷ field (codes "cat") (FieldKind.Filter (codes "XCAT")) ∷ [];
      stem = false;
    }
