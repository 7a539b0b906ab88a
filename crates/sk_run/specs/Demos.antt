-- The commands of a demonstration: a schema, so many documents and five finds, all made from one number.
use Rattle.std.specs.Prelude.{ℕ, ◌+◌, ◌-◌, ◌%◌, zero, suc, ◌==◌, nat_le, true, false, List, [], ◌∷◌, ◌++◌, codes, decimal, Option, Some, None, if◌then◌else◌}
use Rattle.serde_json.specs.Data.{Data}
use Rattle.sk_base.specs.declared.command.Command.{Command}
use Rattle.sk_base.specs.declared.command.Question.TheVariants as Question
use Rattle.sk_base.specs.declared.find.Ask.TheVariants as Ask
use Rattle.sk_base.specs.declared.find.Collapse.{Collapse}
use Rattle.sk_base.specs.declared.find.Find.{Find}
use Rattle.sk_base.specs.declared.find.Join.TheVariants as Join
use Rattle.sk_base.specs.declared.rank.Order.{Order}
use Rattle.sk_base.specs.declared.rank.OrderBy.TheVariants as OrderBy
use Rattle.sk_base.specs.declared.record.Edit.TheVariants as Edit
use Rattle.sk_base.specs.declared.record.FieldValue.TheVariants as FieldValue
use Rattle.sk_base.specs.declared.record.Record.{Record}
use Rattle.sk_base.specs.declared.schema.Schema.{Schema}
use Rattle.sk_base.specs.declared.schema.FieldKind.TheVariants as FieldKind
use Rattle.sk_base.specs.Finds.{default_options, default_paging}

-- The schema: a text, a number and a word.
abbrev pub demo_schema : Schema
demo_schema = record {
  fields =
      record { name = codes "body"; kind = FieldKind.Text [] 1 } ∷ record { name = codes "year"; kind = FieldKind.Number 0 } ∷ record { name = codes "site"; kind = FieldKind.Word 1 } ∷ [];
  stem = false;
}

-- The word `all` so often again, each behind a space.
abbrev pub alls : ℕ → List ℕ
alls zero = []
alls (suc k) = alls k ++ codes " all"

-- The body of the document with this number: `all`, three words by the last digits of the number, and `all` up to six times again.
abbrev pub demo_body : ℕ → List ℕ
demo_body i = (codes "all d" ++ (decimal (i % 10) ++ (codes " h" ++ (decimal (i % 100) ++ (codes " k" ++ decimal (i % 1000)))))) ++ alls (i % 7)

-- The document with this number: its body, a year from 1900 on, and one of fifty sites.
abbrev pub demo_record : ℕ → Record
demo_record i = record {
  values =
      record { field = 0; value = FieldValue.Text (demo_body i) }
      ∷ record { field = 1; value = FieldValue.Number (1900 + i % 120) }
      ∷ record { field = 2; value = FieldValue.Word (codes "s" ++ decimal (i % 50)) }
      ∷ [];
  payload = [];
}

-- A find of three hits, by a text.
abbrev pub three_by : List ℕ → Order → Option Collapse → Find Data
three_by text order collapse = record { ask = Ask.Text text Join.Or; paging = record { options = record default_options { size = 3 }; order = order; collapse = collapse } }

-- The five finds, by their places: by relevance, by relevance, by relevance, collapsed on the site, and by the year, the later first.
abbrev pub demo_find : ℕ → Find Data
demo_find zero = three_by (codes "all") default_paging.order None
demo_find (suc zero) = three_by (codes "d3 h3") default_paging.order None
demo_find (suc (suc zero)) = three_by (codes "all AND k7") default_paging.order None
demo_find (suc (suc (suc zero))) = three_by (codes "d1 all") default_paging.order (Some (record { slot = 1; max = 1 }))
demo_find (suc (suc (suc (suc more)))) = three_by (codes "year:1950..1959") (record { by = OrderBy.Value (record { slot = 0; reverse = true }); falling = false }) None

-- The command at a place, of a demonstration with so many documents: the schema, the documents from 1 on, and the finds.
abbrev pub demo_command : ℕ → ℕ → Command Data
demo_command documents place =
    if place == 0 then Command.Schema demo_schema 1
    else (if nat_le place documents then Command.Edit (Edit.Add (demo_record place))
    else Command.Ask (Question.Find (demo_find (place - documents - 1))))

-- So many of the commands, from a place on.
abbrev pub demo_commands_from : ℕ → ℕ → ℕ → List (Command Data)
demo_commands_from documents place zero = []
demo_commands_from documents place (suc count) = demo_command documents place ∷ demo_commands_from documents (place + 1) count

-- The commands of a demonstration with so many documents, in their order.
abbrev pub demo_commands : ℕ → List (Command Data)
demo_commands documents = demo_commands_from documents 0 (documents + 6)
