-- The shapes that the rows of the reader stand for.
use Rattle.std.specs.Prelude.{ℕ, List, option_map}
use Rattle.serde_json.specs.Data.{Data}
use Rattle.serde_json.specs.View.{view}
use Rattle.sk_base.specs.declared.find.Ask.{Ask}
use Rattle.sk_record.specs.declared.row.RecordRow.{RecordRow}
use Rattle.sk_record.specs.declared.row.AskRow.{AskRow}
use Rattle.sk_record.specs.declared.row.OrderRow.{OrderRow}
use Rattle.sk_record.specs.declared.row.CollapseRow.{CollapseRow}
use Rattle.sk_record.specs.declared.row.FindRow.{FindRow}
use Rattle.sk_record.specs.declared.row.FacetRow.{FacetRow}
use Rattle.sk_record.specs.declared.row.FlightRow.{FlightRow}
use Rattle.sk_record.specs.declared.row.TextRow.{TextRow}
use Rattle.sk_record.specs.declared.row.Row.{Row}
use Rattle.sk_record.specs.Shapes.{Given, Sorted, by_relevance, by_field, CollapsedOn, Wanted, Counted, Flight, opening, turning, closing, dropping, Shape, add, replace, replace_by, delete, delete_by, seek, show, facets, flight}

-- A field's name and a text.
abbrev pub pair_shown : TextRow → List ℕ × List ℕ
pair_shown row = (row.field.now, row.text.now)

-- A values object and a payload.
abbrev pub given_shown : RecordRow → Given
given_shown row = record { values = view row.values; payload = row.payload }

-- A query.
abbrev pub ask_shown : AskRow → Ask Data
ask_shown (AskRow.Text text join) = Ask.Text text.now join
ask_shown (AskRow.Tree value) = Ask.Tree (view value.now)

-- An order.
abbrev pub sorted_shown : OrderRow → Sorted
sorted_shown OrderRow.Relevance = by_relevance
sorted_shown (OrderRow.By sort field reverse) = by_field sort field.now reverse

-- A collapsing.
abbrev pub collapsed_shown : CollapseRow → CollapsedOn
collapsed_shown row = record { field = row.field.now; max = row.max }

-- A find.
abbrev pub wanted_shown : FindRow → Wanted
wanted_shown row =
    record { ask = ask_shown row.ask; options = row.options; sorted = sorted_shown row.order; falling = row.falling; collapsed = option_map collapsed_shown row.collapse }

-- A row that asks for facets.
abbrev pub counted_shown : FacetRow → Counted
counted_shown row = record { text = row.text.now; join = row.join; field = row.field.now; size = row.size }

-- A row that asks something of searches in flight.
abbrev pub flight_shown : FlightRow → Flight
flight_shown (FlightRow.Open wanted) = opening (wanted_shown wanted)
flight_shown (FlightRow.Turn number times) = turning number times
flight_shown (FlightRow.Close number) = closing number
flight_shown (FlightRow.Drop number) = dropping number

-- A row.
abbrev pub shape_shown : Row → Shape
shape_shown (Row.Add given) = add (given_shown given)
shape_shown (Row.Replace id given) = replace id (given_shown given)
shape_shown (Row.ReplaceBy pair given) = replace_by (pair_shown pair) (given_shown given)
shape_shown (Row.Delete id) = delete id
shape_shown (Row.DeleteBy pair) = delete_by (pair_shown pair)
shape_shown (Row.Find wanted) = seek (wanted_shown wanted)
shape_shown (Row.Show text join) = show text.now join
shape_shown (Row.Facets counted) = facets (counted_shown counted)
shape_shown (Row.Flight asked) = flight (flight_shown asked)
