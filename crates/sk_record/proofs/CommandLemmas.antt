-- A command fits the schema under which its line was read.
use Rattle.std.proofs.Common.{◌≡◌, ◌≤◌, true, List, Option, Some, None, IfSome, option_map, subst}
use Rattle.serde_json.specs.Data.{Data}
use Rattle.serde_json.specs.View.{view}
use Rattle.serde_json.specs.declared.value.Value.{Value}
use Rattle.sk_base.specs.declared.command.Command.{Command}
use Rattle.sk_base.specs.declared.command.FlightCommand.{FlightCommand}
use Rattle.sk_base.specs.declared.command.Question.{Question}
use Rattle.sk_base.specs.declared.facets.FacetQuery.{FacetQuery}
use Rattle.sk_base.specs.declared.find.Ask.{Ask}
use Rattle.sk_base.specs.declared.find.Collapse.{Collapse}
use Rattle.sk_base.specs.declared.find.Find.{Find}
use Rattle.sk_base.specs.declared.find.Paging.{Paging}
use Rattle.sk_base.specs.declared.record.Edit.{Edit}
use Rattle.sk_base.specs.declared.schema.Field.{Field}
use Rattle.sk_base.specs.declared.schema.Schema.{Schema}
use Rattle.sk_base.specs.Commands.{FitsFacets, FitsQuestion, FitsFlight, command_over, question_over, flight_over}
use Rattle.sk_base.specs.Fields.{IsSchema, are_fields}
use Rattle.sk_base.specs.Finds.{FitsAsk, FitsPaging, FitsFind, ask_over}
use Rattle.sk_base.specs.Records.{FitsEdit}
use Rattle.sk_record.specs.Shapes.{CollapsedOn, Wanted, Counted, Flight, opening, turning, closing, dropping, Shape, schema, add, replace, replace_by, delete, delete_by, seek, show, facets, flight}
use Rattle.sk_record.specs.FieldRules.{record_of, term_by_filter, replaced_by, slot_named, valued_named, facets_of, order_of, collapse_of, paging_of, find_of, flight_of, command_of}
use Rattle.sk_record.specs.Outcome.{MayCome}
use Rattle.sk_record.proofs.Choices.{some_is, chained, mapped}
use Rattle.sk_record.proofs.EntryLemmas.{record_fits}
use Rattle.sk_record.proofs.ShapeLemmas.{FitsWanted, FitsCounted, FitsAsked, FitsShape}

abbrev KeepsOne : Option Collapse → Type 0
KeepsOne o = IfSome o (λ c. 1 ≤ c.max)

collapse_keeps : (fields : List Field) (collapsed : Option CollapsedOn) (collapse : Option Collapse) → IfSome collapsed (λ c. 1 ≤ c.max)
    → collapse_of fields collapsed ≡ Some collapse → KeepsOne collapse
collapse_keeps fields None collapse keeps e = subst KeepsOne (some_is None collapse e) tt
collapse_keeps fields (Some collapsed) collapse keeps e =
    mapped KeepsOne (λ slot. Some (record { slot = slot; max = collapsed.max })) (slot_named fields collapsed.field) collapse (λ slot is. keeps) e

paging_fits : (fields : List Field) (wanted : Wanted) (paging : Paging) → FitsWanted wanted → paging_of fields wanted ≡ Some paging → FitsPaging paging
paging_fits fields wanted paging fits =
    chained FitsPaging _ (order_of fields wanted.sorted) paging
    (λ order is. mapped FitsPaging _ (collapse_of fields wanted.collapsed) paging
    (λ collapse it. record { page = fits.page; collapse = collapse_keeps fields wanted.collapsed collapse fits.collapsed it }))

find_fits : (fields : List Field) (wanted : Wanted) (find : Find Data) → FitsWanted wanted → find_of fields wanted ≡ Some find → FitsFind find
find_fits fields wanted find fits =
    mapped (λ (f : Find Data). FitsFind f) _ (paging_of fields wanted) find (λ paging is. record { ask = fits.ask; paging = paging_fits fields wanted paging fits is })

facets_fit : (fields : List Field) (counted : Counted) (query : FacetQuery) → FitsCounted counted → facets_of fields counted ≡ Some query → FitsFacets query
facets_fit fields counted query fits = mapped FitsFacets _ (valued_named fields counted.field) query (λ valued is. record { text = fits.text; size = fits.size })

flight_fits : (fields : List Field) (asked : Flight) (command : FlightCommand Data) → FitsAsked asked → flight_of fields asked ≡ Some command → FitsFlight command
flight_fits fields (opening wanted) command fits e =
    mapped (λ (c : FlightCommand Data). FitsFlight c) _ (find_of fields wanted) command (λ find made. find_fits fields wanted find fits made) e
flight_fits fields (turning number times) command fits e = subst (λ (c : FlightCommand Data). FitsFlight c) (some_is (FlightCommand.Turn number times) command e) fits
flight_fits fields (closing number) command fits e = subst (λ (c : FlightCommand Data). FitsFlight c) (some_is (FlightCommand.Close number) command e) tt
flight_fits fields (dropping number) command fits e = subst (λ (c : FlightCommand Data). FitsFlight c) (some_is (FlightCommand.Drop number) command e) tt

-- what a shape says may come
module _ (accepted : Schema) (is : are_fields accepted.fields ≡ true) where
  abbrev Comes : Command Data → Type 0
  Comes = MayCome (Some accepted)

  shape_comes : (shape : Shape) (command : Command Data) → FitsShape shape → command_of accepted.fields shape ≡ Some command → Comes command
  shape_comes (schema given parts) command fits e = absurd fits
  shape_comes (add given) command fits e =
      mapped Comes (λ it. Command.Edit (Edit.Add it)) (record_of accepted.fields given) command (λ it made. record_fits accepted.fields given it is fits made) e
  shape_comes (replace id given) command fits e =
      mapped Comes (λ it. Command.Edit (Edit.Replace id it)) (record_of accepted.fields given) command (λ it made. (fits.0, record_fits accepted.fields given it is fits.1 made)) e
  shape_comes (replace_by pair given) command fits e =
      mapped Comes (λ it. Command.Edit it) (replaced_by accepted.fields pair given) command
      (λ edit made. chained (FitsEdit accepted) (λ term. option_map (λ it. Edit.ReplaceBy term it) (record_of accepted.fields given)) (term_by_filter accepted.fields pair) edit
      (λ term found. mapped (FitsEdit accepted) (λ it. Edit.ReplaceBy term it) (record_of accepted.fields given) edit
      (λ it there. record_fits accepted.fields given it is fits there)) made)
      e
  shape_comes (delete id) command fits e = subst Comes (some_is (Command.Edit (Edit.Delete id)) command e) fits
  shape_comes (delete_by pair) command fits e = mapped Comes (λ term. Command.Edit (Edit.DeleteBy term)) (term_by_filter accepted.fields pair) command (λ term found. tt) e
  shape_comes (seek wanted) command fits e =
      mapped Comes (λ find. Command.Ask (Question.Find find)) (find_of accepted.fields wanted) command (λ find made. find_fits accepted.fields wanted find fits made) e
  shape_comes (show text join) command fits e = subst Comes (some_is (Command.Ask (Question.Show text join)) command e) fits
  shape_comes (facets counted) command fits e =
      mapped Comes (λ query. Command.Ask (Question.Facets query)) (facets_of accepted.fields counted) command (λ query made. facets_fit accepted.fields counted query fits made) e
  shape_comes (flight asked) command fits e =
      mapped Comes (λ it. Command.Flight it) (flight_of accepted.fields asked) command (λ it made. flight_fits accepted.fields asked it fits made) e

ask_fits : (ask : Ask Value) → FitsAsk (ask_over view ask) → FitsAsk ask
ask_fits (Ask.Text text join) fits = fits
ask_fits (Ask.Tree value) fits = tt

question_fits : (question : Question Value) → FitsQuestion (question_over view question) → FitsQuestion question
question_fits (Question.Find it) fits = record { ask = ask_fits it.ask fits.ask; paging = fits.paging }
question_fits (Question.Show text join) fits = fits
question_fits (Question.Facets query) fits = record { text = fits.text; size = fits.size }

in_flight_fits : (asked : FlightCommand Value) → FitsFlight (flight_over view asked) → FitsFlight asked
in_flight_fits (FlightCommand.Open it) fits = record { ask = ask_fits it.ask fits.ask; paging = fits.paging }
in_flight_fits (FlightCommand.Turn number times) fits = fits
in_flight_fits (FlightCommand.Close number) fits = fits
in_flight_fits (FlightCommand.Drop number) fits = fits

comes : (accepted : Schema) (command : Command Value) → MayCome (Some accepted) (command_over view command) → MayCome (Some accepted) command
comes accepted (Command.Schema given parts) fits = fits
comes accepted (Command.Edit edit) fits = fits
comes accepted (Command.Ask question) fits = question_fits question fits
comes accepted (Command.Flight asked) fits = in_flight_fits asked fits

pub command_comes : (accepted : Schema) (shape : Shape) (command : Command Value) → IsSchema accepted → FitsShape shape
    → command_of accepted.fields shape ≡ Some (command_over view command) → MayCome (Some accepted) command
command_comes accepted shape command is fits e = comes accepted command (shape_comes accepted is.sound shape (command_over view command) fits e)
