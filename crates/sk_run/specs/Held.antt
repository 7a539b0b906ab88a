-- What a store of documents holds, and what becomes of it.
use Rattle.std.specs.Prelude.{◌≡◌, ◌≤◌, ◌+◌, ◌⊎◌, ℕ, Bool, false, nat_lt, length, Some, None, Result, Ok, Err}
use Rattle.serde_json.specs.Data.{Data}
use Rattle.sk_base.specs.declared.command.FlightCommand.{FlightCommand}
use Rattle.sk_base.specs.declared.find.Paging.{Paging}
use Rattle.sk_base.specs.declared.record.Edit.{Edit}
use Rattle.sk_base.specs.declared.record.Reply.{Reply}
use Rattle.sk_base.specs.declared.report.Report.{Report}
use Rattle.sk_base.specs.declared.schema.Schema.{Schema}
use Rattle.sk_query.specs.Trees.{Tree}
use Rattle.sk_model.specs.Edits.{Live, nothing_live, edited, reply_to}
use Rattle.sk_report.specs.Flights.{Open, Flights, none_open, most_open, open_at, owed, readings_open, AllMay, OpensAs, TurnsAs, ClosesAs, DropsAs}
use Rattle.sk_parser.specs.declared.asked.AskError.{AskError}
use Rattle.sk_parser.specs.Asked.{asked}
use Rattle.sk_run.specs.declared.refusal.Refusal.TheVariants as Refusal
use Rattle.sk_run.specs.declared.response.Response.{Response}
use Rattle.sk_run.specs.Responses.{reads_of, steps_of}
use Rattle.sk_run.specs.Asking.{RefusedFor}

-- The live documents, in how many parts they stand, and the searches in flight.
pub record Held : Type 0 where
  pub live : Live
  pub parts : ℕ
  pub flights : Flights

-- At first there are none.
abbrev pub nothing_held : ℕ → Held
nothing_held parts = record { live = nothing_live; parts = parts; flights = none_open }

-- They stand in several parts.
abbrev pub are_in_parts : Held → Bool
are_in_parts held = nat_lt 1 held.parts

-- What an edit leaves, under a schema. No search in flight is touched.
abbrev pub edited_held : Schema → Held → Edit → Held
edited_held schema held edit = record { live = edited schema held.live edit; parts = held.parts; flights = held.flights }

-- What an edit is replied over live documents, and the documents that it leaves.
abbrev pub EditsHeld : Schema → Held → Edit → Reply → Held → Type 0
EditsHeld schema held edit reply next = (reply ≡ reply_to held.live edit) × (next ≡ edited_held schema held edit)

-- The same documents, with other searches in flight.
abbrev pub with_flights : Held → Flights → Held
with_flights held flights = record { live = held.live; parts = held.parts; flights = flights }

-- Where searches in flight may be such, and reports are told of them so.
module _ (May : Open → Type 0) (Tells : Open → Report → Type 0) where
  -- An opening: refused where as many are open as may be; else the search has the next number, and stands on the live documents.
  abbrev pub OpensHeld : Paging → Tree → Held → Response → Held → Type 0
  OpensHeld paging query held answer next =
      ((most_open ≤ length held.flights.searches) × (answer ≡ Response.Refused Refusal.TooManyOpen) × (next ≡ held))
      ⊎ ((number reads : ℕ) × (flights : Flights) × OpensAs May Tells paging query held.live.documents held.flights number flights × (answer ≡ Response.Opened number reads) × (next ≡ with_flights held flights))

  -- The same by what is asked for: without a query it is refused first.
  abbrev pub OpensFor : Paging → Result Tree AskError → Held → Response → Held → Type 0
  OpensFor paging (Ok query) held answer next = OpensHeld paging query held answer next
  OpensFor paging (Err why) held answer next = RefusedFor why answer × (next ≡ held)

  -- No search with this number is open, and the line is refused.
  abbrev pub IsNotOpen : ℕ → Held → Response → Held → Type 0
  IsNotOpen number held answer next = (open_at number held.flights ≡ None) × (answer ≡ Response.Refused Refusal.NotOpen) × (next ≡ held)

  -- A search is turned so many times, until it is done.
  abbrev pub TurnsHeld : ℕ → ℕ → Held → Response → Held → Type 0
  TurnsHeld number times held answer next =
      IsNotOpen number held answer next
      ⊎ ((done : Bool) × (reads : ℕ) × (flights : Flights) × TurnsAs May Tells number times held.flights done flights × (answer ≡ Response.Turned number done reads) × (next ≡ with_flights held flights))

  -- A search that is open, but not done, does not close.
  abbrev pub IsNotDone : ℕ → Held → Response → Held → Type 0
  IsNotDone number held answer next =
      (search : Open) × (open_at number held.flights ≡ Some search) × (search.done ≡ false) × (answer ≡ Response.Refused Refusal.NotDone) × (next ≡ held)

  -- A search that is done closes with its report.
  abbrev pub ClosesHeld : ℕ → Held → Response → Held → Type 0
  ClosesHeld number held answer next =
      IsNotOpen number held answer next ⊎ IsNotDone number held answer next
      ⊎ ((report : Report) × (reads : ℕ) × (flights : Flights) × (closes : ClosesAs May Tells number held.flights report flights)
      × (answer ≡ Response.Closed closes.search.paging.options.first report reads) × (next ≡ with_flights held flights))

  -- A search is dropped, done or not.
  abbrev pub DropsHeld : ℕ → Held → Response → Held → Type 0
  DropsHeld number held answer next =
      IsNotOpen number held answer next
      ⊎ ((spent : ℕ) × (flights : Flights) × DropsAs May Tells number held.flights spent flights × (answer ≡ Response.Dropped number spent) × (next ≡ with_flights held flights))

  -- What is answered where searches in flight are asked for, and what is held behind it.
  abbrev pub FliesBy : Schema → Held → FlightCommand Data → Response → Held → Type 0
  FliesBy schema held (FlightCommand.Open find) answer next = OpensFor find.paging (asked schema find.ask) held answer next
  FliesBy schema held (FlightCommand.Turn number times) answer next = TurnsHeld number times held answer next
  FliesBy schema held (FlightCommand.Close number) answer next = ClosesHeld number held answer next
  FliesBy schema held (FlightCommand.Drop number) answer next = DropsHeld number held answer next

  -- The readings that were made for the answer, and those that searches in flight took before, are told by it or by later ones.
  pub record FliesHeld (schema : Schema) (held : Held) (command : FlightCommand Data) (answer : Response) (next : Held) : Type 0 where
    pub does : FliesBy schema held command answer next
    pub paid : owed next.flights + steps_of answer ≡ owed held.flights + reads_of answer

  -- At the end each search that is still open is told of, by rising number, with its readings, which are no more than they may be.
  pub record EndsHeld (schema : Schema) (held : Held) (answer : Response) : Type 0 where
    pub tells : answer ≡ Response.StillOpen (readings_open held.flights)
    pub may : AllMay May held.flights
