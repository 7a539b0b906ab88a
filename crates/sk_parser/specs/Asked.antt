-- What a find asks for: a query, or why there is none.
-- Source: Own.
use Rattle.std.specs.Prelude.{◌≡◌, ℕ, List, Result, Ok, Err}
use Rattle.std.specs.Option.{ok_or}
use Rattle.std.specs.Result.{result_map_both}
use Rattle.serde_json.specs.Data.{Data}
use Rattle.sk_base.specs.declared.find.Ask.{Ask}
use Rattle.sk_base.specs.declared.find.Join.{Join}
use Rattle.sk_base.specs.declared.schema.Schema.{Schema}
use Rattle.sk_query.specs.declared.query.Query.{Query}
use Rattle.sk_query.specs.Trees.{Tree, query_view}
use Rattle.sk_query_json.specs.Reading.{tree_of}
use Rattle.sk_grammar.specs.declared.fault.FaultKind.{FaultKind}
use Rattle.sk_grammar.specs.Meaning.{query_meant}
use Rattle.sk_parser.specs.declared.asked.AskError.{AskError}
use Rattle.sk_parser.specs.declared.asked.AskError.TheVariants.{BadQuery, BadTree, NoMemory}

-- What a text asks for under a schema: the query that it means, and it is refused for its first fault, if it has one.
abbrev pub text_asked : Schema → Join → List ℕ → Result Tree AskError
text_asked schema join text = result_map_both (λ (query : Tree). query) (λ (fault : FaultKind × ℕ). BadQuery fault.0 fault.1) (query_meant schema join text)

-- What a find asks for under a schema, by its text or by its tree, which is refused where it is no query.
abbrev pub asked : Schema → Ask Data → Result Tree AskError
asked schema (Ask.Text text join) = text_asked schema join text
asked schema (Ask.Tree tree) = ok_or (tree_of tree) BadTree

-- What was read is what is asked for: its query, or the cause that there is none. Want of memory tells nothing.
abbrev pub ReadsAs : Result Tree AskError → Result Query AskError → Type 0
ReadsAs asked (Ok query) = asked ≡ Ok (query_view query)
ReadsAs asked (Err (BadQuery kind place)) = asked ≡ Err (BadQuery kind place)
ReadsAs asked (Err BadTree) = asked ≡ Err BadTree
ReadsAs asked (Err NoMemory) = Unit {0}
