-- Which records and edits fit a schema.
use Rattle.std.specs.Prelude.{◌≡◌, ◌<◌, ◌≤◌, ◌+◌, ℕ, Bool, true, false, List, [], ◌∷◌, length, AllPairs, Option, Some, None}
use Rattle.std.specs.List.{list_all, slice_get}
use Rattle.sk_base.specs.declared.schema.Field.{Field}
use Rattle.sk_base.specs.declared.schema.FieldKind.{FieldKind}
use Rattle.sk_base.specs.declared.record.FieldValue.{FieldValue}
use Rattle.sk_base.specs.declared.record.Entry.{Entry}
use Rattle.sk_base.specs.declared.record.Edit.{Edit}
use Rattle.sk_base.specs.declared.schema.Schema.{Schema}

-- The value is of this kind.
abbrev pub fits_kind : FieldKind → FieldValue → Bool
fits_kind (FieldKind.Text prefix step) (FieldValue.Text text) = true
fits_kind (FieldKind.Filter prefix) (FieldValue.Filter texts) = true
fits_kind (FieldKind.Number slot) (FieldValue.Number n) = true
fits_kind (FieldKind.Word slot) (FieldValue.Word text) = true
fits_kind _ _ = false

-- The value is of the kind of the field, if there is one.
abbrev pub fits_field : Option Field → FieldValue → Bool
fits_field None value = false
fits_field (Some field) value = fits_kind field.kind value

-- The entry's place is that of a field of its kind.
abbrev pub fits_entry : List Field → Entry → Bool
fits_entry fields entry = fits_field (slice_get fields entry.field) entry.value

-- How many bytes these texts have.
abbrev pub bytes_of_texts : List (List ℕ) → ℕ
bytes_of_texts [] = 0
bytes_of_texts (text ∷ texts) = length text + bytes_of_texts texts

-- How many bytes the texts of a value have.
abbrev pub bytes_of_value : FieldValue → ℕ
bytes_of_value (FieldValue.Text text) = length text
bytes_of_value (FieldValue.Filter texts) = bytes_of_texts texts
bytes_of_value (FieldValue.Number n) = 0
bytes_of_value (FieldValue.Word text) = length text

-- How many bytes the texts of a record have in all.
abbrev pub bytes_of_values : List Entry → ℕ
bytes_of_values [] = 0
bytes_of_values (entry ∷ entries) = bytes_of_value entry.value + bytes_of_values entries

-- How many bytes the texts of a document may have in all, and a query text.
abbrev pub most_bytes : ℕ
most_bytes = 1048576

-- The values stand by rising place, each is of its field's kind, and their texts are not too long.
pub record FitsValues (fields : List Field) (values : List Entry) : Type 0 where
  pub rising : AllPairs (λ a b. a.field < b.field) values
  pub kinds : list_all (fits_entry fields) values ≡ true
  pub small : bytes_of_values values ≤ most_bytes

-- The edit's record fits, and its id is one.
abbrev pub FitsEdit : Schema → Edit → Type 0
FitsEdit schema (Edit.Add given) = FitsValues schema.fields given.values
FitsEdit schema (Edit.Replace id given) = (1 ≤ id) × FitsValues schema.fields given.values
FitsEdit schema (Edit.ReplaceBy term given) = FitsValues schema.fields given.values
FitsEdit schema (Edit.Delete id) = 1 ≤ id
FitsEdit schema (Edit.DeleteBy term) = Unit {0}
