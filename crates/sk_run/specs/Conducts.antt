-- What a command and a line may be answered, over a store of some conduct.
use Rattle.std.specs.Prelude.{◌≡◌, ◌⊎◌, ℕ, Bool, true, false, List, length, Option, Some, None}
use Rattle.std.specs.Option.{option_map}
use Rattle.serde_json.specs.Data.{Data}
use Rattle.sk_base.specs.declared.command.Command.{Command}
use Rattle.sk_base.specs.declared.command.Question.{Question}
use Rattle.sk_base.specs.declared.command.FlightCommand.{FlightCommand}
use Rattle.sk_base.specs.declared.facets.Facets.{Facets}
use Rattle.sk_base.specs.declared.facets.FacetQuery.{FacetQuery}
use Rattle.sk_base.specs.declared.find.Paging.{Paging}
use Rattle.sk_base.specs.declared.find.Join.{Join}
use Rattle.sk_base.specs.declared.record.Edit.{Edit}
use Rattle.sk_base.specs.declared.record.Reply.{Reply}
use Rattle.sk_base.specs.declared.report.Report.{Report}
use Rattle.sk_base.specs.declared.schema.Schema.{Schema}
use Rattle.sk_query.specs.Trees.{Tree}
use Rattle.sk_parser.specs.Asked.{asked, text_asked}
use Rattle.sk_run.specs.declared.refusal.Refusal.TheVariants as Refusal
use Rattle.sk_run.specs.declared.response.Response.{Response}
use Rattle.sk_run.specs.Responses.{response_to}
use Rattle.sk_run.specs.Asking.{AnswersAsk, IsFound, IsCounted, IsShown}
use Rattle.sk_run.specs.declared.machine.Reading.{Reading}
use Rattle.sk_run.specs.declared.machine.Reading.TheVariants.{Commands, Queries}
use Rattle.sk_run.specs.Meaning.{Meaning, blank, refusal, asks, unread, meaning}
use Rattle.sk_run.specs.Queries.{query_meaning}

-- A store's conduct, by its states under a schema: the state that a schema begins with so many parts, whether the documents stand in several, what an edit is replied and the state that it leaves, the reports that a find of a query may have, the facets of a slot that so many may be told of for a query, what is answered where searches in flight are asked for and the state that it leaves, and what may close a run.
pub record Conduct (S : Type 0) : Type 1 where
  pub begun : ℕ → S
  pub in_parts : S → Bool
  pub edits : Schema → S → Edit → Reply → S → Type 0
  pub finds : S → Paging → Tree → Report → Type 0
  pub facets : S → ℕ → ℕ → Tree → Facets → Type 0
  pub flies : Schema → S → FlightCommand Data → Response → S → Type 0
  pub closes : Schema → S → Response → Type 0

-- The state of a run over a store with states of its own: nothing yet, or the schema that was accepted and the state under it.
abbrev pub State : Type 0 → Type 0
State S = Option (Schema × S)

-- The schema that was accepted, if any.
abbrev pub schema_of : {S : Type 0} → State S → Option Schema
schema_of s = option_map (λ p. p.0) s

-- Whether readings may be counted where a question is answered: a show alone reads nothing.
abbrev pub reads : {T : Type 0} → Question T → Bool
reads (Question.Find find) = true
reads (Question.Show text join) = false
reads (Question.Facets facets) = true

module _ {S : Type 0} (conduct : Conduct S) where
  -- What is answered where facets are asked for: those that the text may have, or a refusal where it is no query. Over documents in several parts they are refused, whatever the text.
  abbrev pub AnswersFacets : Schema → FacetQuery → S → Response → Type 0
  AnswersFacets schema facets s answer =
      ((conduct.in_parts s ≡ true) × (answer ≡ Response.Refused Refusal.InParts))
      ⊎ ((conduct.in_parts s ≡ false) × AnswersAsk (λ query found. IsCounted (conduct.facets s facets.slot facets.size query) facets.kind found) (text_asked schema facets.join facets.text) answer)

  -- What a question is answered by a store in a state. A find is answered a report that it may have, where it asks for a query, a show the query of its text, and facets are answered that its text may have; and each is answered a refusal, where there is no query.
  abbrev pub AnswersQuestion : Schema → Question Data → S → Response → Type 0
  AnswersQuestion schema (Question.Find find) s answer = AnswersAsk (λ query found. IsFound (conduct.finds s find.paging query) find.paging.options.first found) (asked schema find.ask) answer
  AnswersQuestion schema (Question.Show text join) s answer = AnswersAsk IsShown (text_asked schema join text) answer
  AnswersQuestion schema (Question.Facets facets) s answer = AnswersFacets schema facets s answer

  -- What is answered where searches in flight are asked for, and the state that it leaves. Over documents in several parts they are refused, whatever is asked.
  abbrev pub AnswersFlight : Schema → S → FlightCommand Data → Response → S → Type 0
  AnswersFlight schema s command answer next =
      ((conduct.in_parts s ≡ true) × (answer ≡ Response.Refused Refusal.InParts) × (next ≡ s))
      ⊎ ((conduct.in_parts s ≡ false) × conduct.flies schema s command answer next)

  -- What a command is answered by a store in a state, and the state that it leaves: an edit its reply, and a question its answer, which leaves the state as it was.
  abbrev pub Does : Schema → S → Command Data → Response → S → Type 0
  Does schema s (Command.Schema given parts) answer next = ⊥
  Does schema s (Command.Edit edit) answer next = (reply : Reply) × conduct.edits schema s edit reply next × (answer ≡ response_to reply)
  Does schema s (Command.Ask question) answer next = AnswersQuestion schema question s answer × (next ≡ s)
  Does schema s (Command.Flight command) answer next = AnswersFlight schema s command answer next

  -- What a command is answered, and the state that it leaves: a schema begins a store, and every other command is the store's.
  abbrev pub Obeys : State S → Command Data → Response → State S → Type 0
  Obeys None (Command.Schema schema parts) answer next = (answer ≡ Response.Schema (length schema.fields)) × (next ≡ Some (schema, conduct.begun parts))
  Obeys None (Command.Edit edit) answer next = ⊥
  Obeys None (Command.Ask question) answer next = ⊥
  Obeys None (Command.Flight command) answer next = ⊥
  Obeys (Some s) command answer next = (after : S) × Does s.0 s.1 command answer after × (next ≡ Some (s.0, after))

  -- What a line of this meaning is answered. A blank line and a refused one leave the state as it was. A command is obeyed.
  abbrev pub AnswersMeaning : State S → Meaning → Response → State S → Type 0
  AnswersMeaning s blank answer next = (answer ≡ Response.Skipped) × (next ≡ s)
  AnswersMeaning s (refusal why) answer next = (answer ≡ Response.Refused why) × (next ≡ s)
  AnswersMeaning s (asks command) answer next = Obeys s command answer next
  AnswersMeaning s unread answer next = ⊥

  -- In this state the line may be answered so, and leaves that state.
  abbrev pub Answers : State S → List ℕ → Response → State S → Type 0
  Answers s line answer next = AnswersMeaning s (meaning (schema_of s) line) answer next

  -- In this state the line may be answered so as a query text, and leaves that state.
  abbrev pub AnswersQuery : Join → State S → List ℕ → Response → State S → Type 0
  AnswersQuery join s line answer next = AnswersMeaning s (query_meaning join (schema_of s) line) answer next

  -- How a line is read: as a command, or as a query text whose words are joined so.
  abbrev pub AnswersAs : Reading → State S → List ℕ → Response → State S → Type 0
  AnswersAs Commands s line answer next = Answers s line answer next
  AnswersAs (Queries join) s line answer next = AnswersQuery join s line answer next

  -- What is put behind the answers of all lines: nothing before a schema was accepted, and then what the store closes with.
  abbrev pub Closes : State S → Response → Type 0
  Closes None answer = answer ≡ Response.Skipped
  Closes (Some s) answer = conduct.closes s.0 s.1 answer
