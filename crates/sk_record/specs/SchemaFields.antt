-- The schema of a schema line, as it was given.
use Rattle.std.specs.Prelude.{ℕ, ◌&&◌, nat_le, min, List, [], ◌∷◌, Option, Some, None, bytes_eq, codes, if◌then◌else◌, option_map}
use Rattle.std.specs.Option.{option_and_then}
use Rattle.serde_json.specs.Data.{Data, Items, no_items, item}
use Rattle.serde_json.specs.Find.{get, as_array}
use Rattle.sk_base.specs.declared.schema.Field.{Field}
use Rattle.sk_base.specs.declared.schema.FieldKind.{FieldKind}
use Rattle.sk_base.specs.declared.schema.Schema.{Schema}
use Rattle.sk_json.specs.Values.{has_only, text_at, optional_text, optional_number, optional_flag, whole_number, between, count_items}

-- A number beyond 32 bits is taken as the greatest of 32 bits, which is out of range as well.
abbrev pub capped : ℕ → ℕ
capped n = min n 4294967295

-- A text field: the prefix is empty and the step 1 where they are absent.
abbrev pub text_kind : Data → Option FieldKind
text_kind d =
    if has_only (codes "name" ∷ codes "kind" ∷ codes "prefix" ∷ codes "step" ∷ []) d then
    option_and_then (λ prefix. option_map (λ step. FieldKind.Text prefix (capped step)) (optional_number (codes "step") 1 d)) (optional_text (codes "prefix") d)
    else None

-- A filter: the prefix must be there.
abbrev pub filter_kind : Data → Option FieldKind
filter_kind d =
    if has_only (codes "name" ∷ codes "kind" ∷ codes "prefix" ∷ []) d then option_map (λ prefix. FieldKind.Filter prefix) (text_at (codes "prefix") d)
    else None

-- The slot of a number or a word, which must be there.
abbrev pub slot_at : Data → Option ℕ
slot_at d =
    if has_only (codes "name" ∷ codes "kind" ∷ codes "slot" ∷ []) d then option_map capped (option_and_then whole_number (get (codes "slot") d))
    else None

-- The kind of a field object, by the name of the kind.
abbrev pub kind_named : List ℕ → Data → Option FieldKind
kind_named name d =
    if bytes_eq name (codes "text") then text_kind d
    else (if bytes_eq name (codes "filter") then filter_kind d
    else (if bytes_eq name (codes "number") then option_map (λ slot. FieldKind.Number slot) (slot_at d)
    else (if bytes_eq name (codes "word") then option_map (λ slot. FieldKind.Word slot) (slot_at d)
    else None)))

-- The kind of a field object.
abbrev pub kind_of : Data → Option FieldKind
kind_of d = option_and_then (λ name. kind_named name d) (text_at (codes "kind") d)

-- The field of a field object.
abbrev pub field_of : Data → Option Field
field_of d = option_and_then (λ name. option_map (λ kind. record { name = name; kind = kind }) (kind_of d)) (text_at (codes "name") d)

-- The fields of field objects.
abbrev pub fields_of : Items → Option (List Field)
fields_of no_items = Some []
fields_of (item d ds) = option_and_then (λ field. option_map (λ fields. field ∷ fields) (fields_of ds)) (field_of d)

-- The fields of 1 to 64 field objects.
abbrev pub some_fields : Items → Option (List Field)
some_fields ds = if nat_le 1 (count_items ds) && nat_le (count_items ds) 64 then fields_of ds else None

-- The fields of a schema line.
abbrev pub fields_at : Data → Option (List Field)
fields_at d = option_and_then some_fields (option_and_then as_array (get (codes "schema") d))

-- In how many parts the documents stand: 1 to 16, and in one where nothing is said.
abbrev pub parts_at : Data → Option ℕ
parts_at d = option_and_then (between 1 16) (optional_number (codes "parts") 1 d)

-- The schema of a schema line, and the number of parts. Words are not stemmed where nothing is said.
abbrev pub schema_row : Data → Option (Schema × ℕ)
schema_row d =
    if has_only (codes "schema" ∷ codes "stem" ∷ codes "parts" ∷ []) d then
    option_and_then (λ stem.
    option_and_then (λ parts. option_map (λ fields. (record { fields = fields; stem = stem }, parts)) (fields_at d)) (parts_at d)) (optional_flag (codes "stem") d)
    else None
