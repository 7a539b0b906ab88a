-- What a find, facets and a show are answered.
use Rattle.std.specs.Prelude.{◌≡◌, ℕ, ◌+◌, ◌≤◌, Result, Ok, Err}
use Rattle.serde_json.specs.Written.{compact_text}
use Rattle.sk_base.specs.declared.facets.Facets.{Facets}
use Rattle.sk_base.specs.declared.facets.ValueKind.{ValueKind}
use Rattle.sk_base.specs.declared.report.Report.{Report}
use Rattle.sk_query.specs.Trees.{Tree}
use Rattle.sk_query_json.specs.Writing.{json_of}
use Rattle.sk_parser.specs.declared.asked.AskError.{AskError}
use Rattle.sk_parser.specs.declared.asked.AskError.TheVariants.{BadQuery, BadTree, NoMemory}
use Rattle.sk_run.specs.declared.refusal.Refusal.TheVariants as Refusal
use Rattle.sk_run.specs.declared.response.Response.{Response}

-- What a store tells of a question: of what is asked for, what its query allows (a report, or facets), or the cause that there is no query. Want of memory tells nothing.
abbrev pub TellsOfQuestion : {A : Type 0} → (Tree → A → Type 0) → Result Tree AskError → Result A AskError → Type 0
TellsOfQuestion Allows asked (Ok told) = (query : Tree) × (asked ≡ Ok query) × Allows query told
TellsOfQuestion Allows asked (Err (BadQuery kind place)) = asked ≡ Err (BadQuery kind place)
TellsOfQuestion Allows asked (Err BadTree) = asked ≡ Err BadTree
TellsOfQuestion Allows asked (Err NoMemory) = Unit {0}

-- The counter rose by the steps of what was told, and not where there was no query. Where memory ran out it did not fall.
abbrev pub CountsSteps : {A : Type 0} → (A → ℕ) → Result A AskError → ℕ → ℕ → Type 0
CountsSteps steps_in (Ok told) before after = after ≡ before + steps_in told
CountsSteps steps_in (Err (BadQuery kind place)) before after = after ≡ before
CountsSteps steps_in (Err BadTree) before after = after ≡ before
CountsSteps steps_in (Err NoMemory) before after = before ≤ after

-- The refusal where there is no query, with its cause. Want of memory is no answer.
abbrev pub RefusedFor : AskError → Response → Type 0
RefusedFor (BadQuery kind place) answer = answer ≡ Response.Refused (Refusal.BadQuery kind place)
RefusedFor BadTree answer = answer ≡ Response.Refused Refusal.BadTree
RefusedFor NoMemory answer = ⊥

-- What is answered by what is asked for: to a query as `Answers` says, and where there is none a refusal.
abbrev pub AnswersAsk : (Tree → Response → Type 0) → Result Tree AskError → Response → Type 0
AnswersAsk Answers (Ok query) answer = Answers query answer
AnswersAsk Answers (Err why) answer = RefusedFor why answer

-- Something that is allowed is answered, as the response that tells it.
abbrev pub RespondsWith : {A : Type 0} → (A → Type 0) → (A → Response) → Response → Type 0
RespondsWith {A} Allows response answer = (told : A) × Allows told × (answer ≡ response told)

-- A find is answered a report that is allowed, with the rank of its first hit.
abbrev pub IsFound : (Report → Type 0) → ℕ → Response → Type 0
IsFound Allows first answer = RespondsWith Allows (λ report. Response.Found first report) answer

-- Facets are asked for of values of a kind, and answered as they are allowed.
abbrev pub IsCounted : (Facets → Type 0) → ValueKind → Response → Type 0
IsCounted Allows kind answer = RespondsWith Allows (λ facets. Response.Facets kind facets) answer

-- The query of a text is shown as the compact text of its JSON value.
abbrev pub IsShown : Tree → Response → Type 0
IsShown query answer = answer ≡ Response.Query (compact_text (json_of query))
