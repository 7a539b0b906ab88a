-- What a shape says under a schema, and none where a rule on fields is broken.
use Rattle.std.specs.Prelude.{ℕ, suc, Bool, false, List, [], ◌∷◌, bytes_eq, find, Option, Some, None, is_some, if◌then◌else◌, option_map}
use Rattle.std.specs.Option.{option_and_then}
use Rattle.serde_json.specs.Data.{Data, null, boolean, number, string, array, object}
use Rattle.serde_json.specs.Find.{get, as_str}
use Rattle.sk_base.specs.declared.command.Command.{Command}
use Rattle.sk_base.specs.declared.command.FlightCommand.{FlightCommand}
use Rattle.sk_base.specs.declared.command.Question.{Question}
use Rattle.sk_base.specs.declared.facets.FacetQuery.{FacetQuery}
use Rattle.sk_base.specs.declared.facets.ValueKind.{ValueKind}
use Rattle.sk_base.specs.declared.find.Collapse.{Collapse}
use Rattle.sk_base.specs.declared.find.Find.{Find}
use Rattle.sk_base.specs.declared.find.Paging.{Paging}
use Rattle.sk_base.specs.declared.rank.OrderBy.{OrderBy}
use Rattle.sk_base.specs.declared.rank.SortKey.{SortKey}
use Rattle.sk_base.specs.declared.record.Edit.{Edit}
use Rattle.sk_base.specs.declared.record.Entry.{Entry}
use Rattle.sk_base.specs.declared.record.FieldValue.{FieldValue}
use Rattle.sk_base.specs.declared.record.Record.{Record}
use Rattle.sk_base.specs.declared.schema.Field.{Field}
use Rattle.sk_base.specs.declared.schema.FieldKind.{FieldKind}
use Rattle.sk_base.specs.Fields.{are_fields, kind_slot}
use Rattle.sk_base.specs.Terms.{prefixed}
use Rattle.sk_record.specs.declared.row.Sort.{Sort}
use Rattle.sk_json.specs.Values.{all_names, whole_number, texts_of}
use Rattle.sk_record.specs.Shapes.{Given, Sorted, by_relevance, by_field, CollapsedOn, Wanted, Counted, Flight, opening, turning, closing, dropping, Shape, schema, add, replace, replace_by, delete, delete_by, seek, show, facets, flight}

-- The field with this name.
abbrev pub field_named : List Field → List ℕ → Option Field
field_named fields name = find (λ field. bytes_eq field.name name) fields

-- The texts of a filter: one string, or an array of strings, in order and with repeats.
abbrev pub filter_texts : Data → Option (List (List ℕ))
filter_texts (string s) = Some (s ∷ [])
filter_texts (array ds) = texts_of ds
filter_texts null = None
filter_texts (boolean b) = None
filter_texts (number n) = None
filter_texts (object ms) = None

-- The value for a field of this kind.
abbrev pub told_value : FieldKind → Data → Option FieldValue
told_value (FieldKind.Text prefix step) d = option_map (λ text. FieldValue.Text text) (as_str d)
told_value (FieldKind.Filter prefix) d = option_map (λ texts. FieldValue.Filter texts) (filter_texts d)
told_value (FieldKind.Number slot) d = option_map (λ n. FieldValue.Number n) (whole_number d)
told_value (FieldKind.Word slot) d = option_map (λ text. FieldValue.Word text) (as_str d)

-- What a member gives for a field of this kind: nothing where it is absent or null.
abbrev pub member_value : FieldKind → Option Data → Option (Option FieldValue)
member_value kind None = Some None
member_value kind (Some null) = Some None
member_value kind (Some (boolean b)) = option_map (λ value. Some value) (told_value kind (boolean b))
member_value kind (Some (number n)) = option_map (λ value. Some value) (told_value kind (number n))
member_value kind (Some (string s)) = option_map (λ value. Some value) (told_value kind (string s))
member_value kind (Some (array ds)) = option_map (λ value. Some value) (told_value kind (array ds))
member_value kind (Some (object ms)) = option_map (λ value. Some value) (told_value kind (object ms))

-- The entries with that of a place before them, if it has a value.
abbrev pub with_entry : ℕ → Option FieldValue → List Entry → List Entry
with_entry place None entries = entries
with_entry place (Some value) entries = record { field = place; value = value } ∷ entries

-- The entries of a values object for these fields, in their order, the first of them at this place.
abbrev pub record_entries_from : ℕ → List Field → Data → Option (List Entry)
record_entries_from place [] values = Some []
record_entries_from place (field ∷ more) values =
    option_and_then (λ value. option_map (with_entry place value) (record_entries_from (suc place) more values)) (member_value field.kind (get field.name values))

-- The value is an object, and each of its members names a field.
abbrev pub names_fields : List Field → Data → Bool
names_fields fields (object members) = all_names (λ name. is_some (field_named fields name)) members
names_fields fields null = false
names_fields fields (boolean b) = false
names_fields fields (number n) = false
names_fields fields (string s) = false
names_fields fields (array ds) = false

-- The entries of a values object.
abbrev pub record_entries : List Field → Data → Option (List Entry)
record_entries fields values = if names_fields fields values then record_entries_from 0 fields values else None

-- The record of a values object and a payload.
abbrev pub record_of : List Field → Given → Option Record
record_of fields given = option_map (λ entries. record { values = entries; payload = given.payload }) (record_entries fields given.values)

-- The prefix of a filter.
abbrev pub filter_prefix : FieldKind → Option (List ℕ)
filter_prefix (FieldKind.Filter prefix) = Some prefix
filter_prefix _ = None

-- The prefix of the named filter.
abbrev pub prefix_named : List Field → List ℕ → Option (List ℕ)
prefix_named fields name = option_and_then (λ field. filter_prefix field.kind) (field_named fields name)

-- The term of a text of the named filter.
abbrev pub term_by_filter : List Field → List ℕ × List ℕ → Option (List ℕ)
term_by_filter fields pair = option_map (λ prefix. prefixed prefix pair.1) (prefix_named fields pair.0)

-- The slot of the named number or word.
abbrev pub slot_named : List Field → List ℕ → Option ℕ
slot_named fields name = option_and_then (λ field. kind_slot field.kind) (field_named fields name)

-- The slot of the values of a field of this kind, and what they are; none where it has no values.
abbrev pub slot_and_kind : FieldKind → Option (ℕ × ValueKind)
slot_and_kind (FieldKind.Text prefix step) = None
slot_and_kind (FieldKind.Filter prefix) = None
slot_and_kind (FieldKind.Number slot) = Some (slot, ValueKind.Number)
slot_and_kind (FieldKind.Word slot) = Some (slot, ValueKind.Word)

-- The slot of the named number or word, and which of the two it is.
abbrev pub valued_named : List Field → List ℕ → Option (ℕ × ValueKind)
valued_named fields name = option_and_then (λ field. slot_and_kind field.kind) (field_named fields name)

-- What decides, by this key.
abbrev pub keyed : Sort → SortKey → OrderBy
keyed Sort.Value key = OrderBy.Value key
keyed Sort.ValueThenRelevance key = OrderBy.ValueThenRelevance key
keyed Sort.RelevanceThenValue key = OrderBy.RelevanceThenValue key

-- What decides, with the slot of its field.
abbrev pub order_of : List Field → Sorted → Option OrderBy
order_of fields by_relevance = Some OrderBy.Relevance
order_of fields (by_field sort field reverse) = option_map (λ slot. keyed sort (record { slot = slot; reverse = reverse })) (slot_named fields field)

-- The collapsing, with the slot of its field.
abbrev pub collapse_of : List Field → Option CollapsedOn → Option (Option Collapse)
collapse_of fields None = Some None
collapse_of fields (Some collapsed) = option_map (λ slot. Some (record { slot = slot; max = collapsed.max })) (slot_named fields collapsed.field)

-- The page, with the slots of its fields.
abbrev pub paging_of : List Field → Wanted → Option Paging
paging_of fields wanted =
    option_and_then (λ by.
    option_map (λ collapse. record { options = wanted.options; order = record { by = by; falling = wanted.falling }; collapse = collapse })
    (collapse_of fields wanted.collapsed)) (order_of fields wanted.sorted)

-- The find, with the slots of its fields.
abbrev pub find_of : List Field → Wanted → Option (Find Data)
find_of fields wanted = option_map (λ paging. record { ask = wanted.ask; paging = paging }) (paging_of fields wanted)

-- The facets of a field, with its slot.
abbrev pub facets_of : List Field → Counted → Option FacetQuery
facets_of fields counted =
    option_map (λ valued. record { text = counted.text; join = counted.join; slot = valued.0; kind = valued.1; size = counted.size })
    (valued_named fields counted.field)

-- The edit that puts a record in the place of all documents with a term, where the field and the record keep the rules.
abbrev pub replaced_by : List Field → List ℕ × List ℕ → Given → Option Edit
replaced_by fields pair given = option_and_then (λ term. option_map (λ it. Edit.ReplaceBy term it) (record_of fields given)) (term_by_filter fields pair)

-- What is asked of searches in flight, by their numbers; one that is opened keeps the rules on fields as a find does.
abbrev pub flight_of : List Field → Flight → Option (FlightCommand Data)
flight_of fields (opening wanted) = option_map (λ find. FlightCommand.Open find) (find_of fields wanted)
flight_of fields (turning n times) = Some (FlightCommand.Turn n times)
flight_of fields (closing n) = Some (FlightCommand.Close n)
flight_of fields (dropping n) = Some (FlightCommand.Drop n)

-- What a shape says under the fields that were accepted; a schema stands by itself.
abbrev pub command_of : List Field → Shape → Option (Command Data)
command_of fields (schema given parts) = if are_fields given.fields then Some (Command.Schema given parts) else None
command_of fields (add given) = option_map (λ it. Command.Edit (Edit.Add it)) (record_of fields given)
command_of fields (replace id given) = option_map (λ it. Command.Edit (Edit.Replace id it)) (record_of fields given)
command_of fields (replace_by pair given) = option_map (λ it. Command.Edit it) (replaced_by fields pair given)
command_of fields (delete id) = Some (Command.Edit (Edit.Delete id))
command_of fields (delete_by pair) = option_map (λ term. Command.Edit (Edit.DeleteBy term)) (term_by_filter fields pair)
command_of fields (seek wanted) = option_map (λ find. Command.Ask (Question.Find find)) (find_of fields wanted)
command_of fields (show text join) = Some (Command.Ask (Question.Show text join))
command_of fields (facets counted) = option_map (λ it. Command.Ask (Question.Facets it)) (facets_of fields counted)
command_of fields (flight asked) = option_map (λ it. Command.Flight it) (flight_of fields asked)
