-- The documents of the example, and what a find in them and a text may be answered.
use Rattle.std.specs.Prelude.{ℕ, false, List, [], ◌∷◌, codes, Result}
use Rattle.std.specs.Result.{result_map_both}
use Rattle.serde_json.specs.Written.{compact_text}
use Rattle.sk_base.specs.declared.find.Join.{Join}
use Rattle.sk_base.specs.declared.record.Edit.{Edit}
use Rattle.sk_base.specs.declared.record.FieldValue.{FieldValue}
use Rattle.sk_base.specs.declared.report.Report.{Report}
use Rattle.sk_base.specs.declared.schema.FieldKind.{FieldKind}
use Rattle.sk_base.specs.declared.schema.Schema.{Schema}
use Rattle.sk_base.specs.Finds.{default_paging}
use Rattle.sk_query.specs.Trees.{Tree}
use Rattle.sk_query_json.specs.Writing.{json_of}
use Rattle.sk_grammar.specs.declared.fault.FaultKind.{FaultKind}
use Rattle.sk_grammar.specs.Meaning.{query_meant}
use Rattle.sk_parser.specs.declared.asked.AskError.{AskError}
use Rattle.sk_parser.specs.Asked.{text_asked}
use Rattle.sk_run.specs.Asking.{TellsOfQuestion}
use Rattle.sk_run.specs.Held.{Held, nothing_held, edited_held}
use Rattle.sk_engine.specs.Sessions.{MayFind}

-- The schema: one text, whose words are terms without a prefix, and count once; words are not stemmed.
abbrev pub bodies : Schema
bodies = record { fields = record { name = codes "body"; kind = FieldKind.Text [] 1 } ∷ []; stem = false }

-- The edit that adds a document with this body, and a text that is handed back.
abbrev pub addition : List ℕ → List ℕ → Edit
addition payload body = Edit.Add (record { values = record { field = 0; value = FieldValue.Text body } ∷ []; payload = payload })

-- The first of three documents, live, in one part; the first two; all three.
abbrev pub one : Held
one = edited_held bodies (nothing_held 1) (addition (codes "one") (codes "the red fox sleeps"))

abbrev pub two : Held
two = edited_held bodies one (addition (codes "two") (codes "a fox and a red fox"))

abbrev pub three : Held
three = edited_held bodies two (addition (codes "three") (codes "a brown hen"))

-- What a find of a text is answered over live documents under a schema: a report of the first ten that the find may have, or the first fault of the text.
abbrev pub Answers : Schema → Held → List ℕ → Result Report AskError → Type 0
Answers schema held text answer = TellsOfQuestion (MayFind held default_paging) (text_asked schema Join.Or text) answer

-- The JSON of the query that a text means under a schema, or else its first fault, with the byte where that stands.
abbrev pub json_meant : Schema → List ℕ → Result (List ℕ) (FaultKind × ℕ)
json_meant schema text = result_map_both (λ (query : Tree). compact_text (json_of query)) (λ (fault : FaultKind × ℕ). fault) (query_meant schema Join.Or text)
