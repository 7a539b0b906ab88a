-- What a shelf holds, and what it does.
use Rattle.std.specs.Prelude.{◌≡◌, ℕ, ◌==◌, if◌then◌else◌}
use Rattle.sk_base.specs.declared.facets.Facets.{Facets}
use Rattle.sk_base.specs.declared.schema.Schema.{Schema}
use Rattle.sk_base.specs.declared.find.Paging.{Paging}
use Rattle.sk_base.specs.declared.report.Report.{Report}
use Rattle.sk_query.specs.Trees.{Tree}
use Rattle.sk_model.specs.Edits.{Live}
use Rattle.sk_model.specs.Facets.{facet_allowance}
use Rattle.sk_report.specs.Facets.{FacetsFor}
use Rattle.sk_report.specs.Flights.{Flights}
use Rattle.sk_plain.specs.Pages.{report_for, report_in_parts}
use Rattle.sk_run.specs.Conducts.{Conduct}
use Rattle.sk_run.specs.Held.{Held, nothing_held, are_in_parts, EditsHeld, FliesHeld, EndsHeld}
use Rattle.sk_reference.specs.Searches.{Stands, Tells}

-- What a shelf holds: its schema, the live documents, in how many parts they stand, and the searches in flight.
pub record Shelved : Type 0 where
  pub schema : Schema
  pub live : Live
  pub parts : ℕ
  pub flights : Flights

-- The schema that a shelf is under.
abbrev pub schema_of : Shelved → Schema
schema_of shelf = shelf.schema

-- Its live documents, in how many parts they stand, and its searches in flight.
abbrev pub held_by : Shelved → Held
held_by shelf = record { live = shelf.live; parts = shelf.parts; flights = shelf.flights }

-- A shelf holds these.
abbrev pub holds : Shelved → Held → Type 0
holds shelf held = held_by shelf ≡ held

-- The report of a find of a query over these live documents: one, and no other.
abbrev pub Finds : Held → Paging → Tree → Report → Type 0
Finds held paging query report =
    report ≡ (if held.parts == 1 then report_for query paging held.live.documents else report_in_parts held.parts query paging held.live.documents)

-- The facets that are told of a query over these live documents: all but the steps are one, and the steps are the most that the rules allow.
abbrev pub Counts : Held → ℕ → ℕ → Tree → Facets → Type 0
Counts held slot size query facets = FacetsFor query slot size held.live.documents facets × (facets.steps ≡ facet_allowance query held.live.documents)

-- What a shelf does: it begins without documents, its searches in flight read nothing, and at the end each that is open is told of.
abbrev pub shelf_conduct : Conduct Held
shelf_conduct = record {
  begun = nothing_held;
  in_parts = are_in_parts;
  edits = EditsHeld;
  finds = Finds;
  facets = Counts;
  flies = FliesHeld Stands Tells;
  closes = EndsHeld Stands Tells;
}
