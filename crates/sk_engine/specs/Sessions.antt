-- What a session holds, and what it may do.
use Rattle.std.specs.Prelude.{◌≡◌, ℕ, length}
use Rattle.serde_json.specs.Data.{Data}
use Rattle.sk_base.specs.declared.command.FlightCommand.{FlightCommand}
use Rattle.sk_base.specs.declared.facets.Facets.{Facets}
use Rattle.sk_base.specs.declared.find.Paging.{Paging}
use Rattle.sk_base.specs.declared.report.Report.{Report}
use Rattle.sk_base.specs.declared.schema.Schema.{Schema}
use Rattle.sk_query.specs.Trees.{Tree}
use Rattle.sk_report.specs.Facets.{FacetsFor}
use Rattle.sk_report.specs.Flights.{MayBeOpen, none_open}
use Rattle.sk_report.specs.Reports.{ReportsIn}
use Rattle.sk_flight.specs.Flying.{Flying}
use Rattle.sk_flight.specs.Told.{Tells}
use Rattle.sk_engine.specs.declared.session.Session.{Session}
use Rattle.sk_engine.specs.declared.session.Session.TheVariants.{One, Several}
use Rattle.sk_run.specs.declared.response.Response.{Response}
use Rattle.sk_run.specs.Conducts.{Conduct}
use Rattle.sk_run.specs.Held.{Held, nothing_held, are_in_parts, EditsHeld, FliesHeld, EndsHeld}

-- What is held where documents stand in one index, with searches in flight.
abbrev pub held_by : Flying → Held
held_by flying = record { live = flying.newest.live; parts = 1; flights = flying.flights }

-- The session holds these live documents: in one index, where searches are in flight, or in the indexes of several parts, where none is.
abbrev pub SessionHolds : Session → Held → Type 0
SessionHolds (One flights) held = held_by flights ≡ held
SessionHolds (Several several) held = record { live = several.parts.live; parts = length several.parts.indexes; flights = none_open } ≡ held

-- The schema that a session is under.
abbrev pub schema_of : Session → Schema
schema_of (One flights) = flights.newest.schema
schema_of (Several several) = several.parts.schema

-- The reports that a find of a query may have over these live documents, in so many parts.
abbrev pub MayFind : Held → Paging → Tree → Report → Type 0
MayFind held paging query report = ReportsIn held.parts query paging held.live.documents report

-- The facets that may be told of a query over these live documents: those of the values in a slot, so many values at the most.
abbrev pub MayCount : Held → ℕ → ℕ → Tree → Facets → Type 0
MayCount held slot size query facets = FacetsFor query slot size held.live.documents facets

-- What is answered where searches in flight are asked for, and what is held behind it. A search that is open keeps the bounds on its turns and readings, and ends with a report that its find may have on the documents of its opening.
abbrev pub MayFly : Schema → Held → FlightCommand Data → Response → Held → Type 0
MayFly = FliesHeld MayBeOpen Tells

-- The searches that are still open at the end, which keep those bounds.
abbrev pub MayEnd : Schema → Held → Response → Type 0
MayEnd = EndsHeld MayBeOpen Tells

-- What a session may do: it begins without documents and searches, and at the end tells of the searches that are still open.
abbrev pub session_conduct : Conduct Held
session_conduct = record { begun = nothing_held; in_parts = are_in_parts; edits = EditsHeld; finds = MayFind; facets = MayCount; flies = MayFly; closes = MayEnd }
