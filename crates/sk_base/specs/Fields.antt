-- The rules on the fields of a schema.
use Rattle.std.specs.Prelude.{◌≡◌, ◌≤◌, ℕ, Bool, true, false, ◌&&◌, ◌||◌, ◌==◌, not, nat_le, List, [], ◌∷◌, length, Option, Some, None, bytes_eq, position}
use Rattle.std.specs.List.{list_all}
use Rattle.sk_base.specs.declared.schema.Field.{Field}
use Rattle.sk_base.specs.declared.schema.FieldKind.{FieldKind}
use Rattle.sk_base.specs.Names.{is_name, is_prefix}

-- A step is 1 to 256, a filter's prefix is not empty, and a slot is 0 to 255.
abbrev pub is_kind : FieldKind → Bool
is_kind (FieldKind.Text prefix step) = is_prefix prefix && nat_le 1 step && nat_le step 256
is_kind (FieldKind.Filter prefix) = not (length prefix == 0) && is_prefix prefix
is_kind (FieldKind.Number slot) = nat_le slot 255
is_kind (FieldKind.Word slot) = nat_le slot 255

-- The prefix of the terms of a field of this kind, empty where it has none.
abbrev pub kind_prefix : FieldKind → List ℕ
kind_prefix (FieldKind.Text prefix step) = prefix
kind_prefix (FieldKind.Filter prefix) = prefix
kind_prefix (FieldKind.Number slot) = []
kind_prefix (FieldKind.Word slot) = []

-- The slot of the values of a field of this kind, none where it has no values.
abbrev pub kind_slot : FieldKind → Option ℕ
kind_slot (FieldKind.Text prefix step) = None
kind_slot (FieldKind.Filter prefix) = None
kind_slot (FieldKind.Number slot) = Some slot
kind_slot (FieldKind.Word slot) = Some slot

-- A field keeps the rules of its name and of its kind.
abbrev pub is_field : Field → Bool
is_field field = is_name field.name && is_kind field.kind

-- A filter's prefix is no other field's prefix, and no two fields share a slot. Text fields may share a prefix.
abbrev pub kinds_clash : FieldKind → FieldKind → Bool
kinds_clash (FieldKind.Text p s) (FieldKind.Text q t) = false
kinds_clash (FieldKind.Text p s) (FieldKind.Filter q) = bytes_eq p q
kinds_clash (FieldKind.Text p s) (FieldKind.Number j) = false
kinds_clash (FieldKind.Text p s) (FieldKind.Word j) = false
kinds_clash (FieldKind.Filter p) (FieldKind.Text q t) = bytes_eq p q
kinds_clash (FieldKind.Filter p) (FieldKind.Filter q) = bytes_eq p q
kinds_clash (FieldKind.Filter p) (FieldKind.Number j) = false
kinds_clash (FieldKind.Filter p) (FieldKind.Word j) = false
kinds_clash (FieldKind.Number i) (FieldKind.Text q t) = false
kinds_clash (FieldKind.Number i) (FieldKind.Filter q) = false
kinds_clash (FieldKind.Number i) (FieldKind.Number j) = i == j
kinds_clash (FieldKind.Number i) (FieldKind.Word j) = i == j
kinds_clash (FieldKind.Word i) (FieldKind.Text q t) = false
kinds_clash (FieldKind.Word i) (FieldKind.Filter q) = false
kinds_clash (FieldKind.Word i) (FieldKind.Number j) = i == j
kinds_clash (FieldKind.Word i) (FieldKind.Word j) = i == j

-- Two fields can't stand in one schema: they share a name, a filter's prefix or a slot.
abbrev pub clash : Field → Field → Bool
clash f g = bytes_eq f.name g.name || kinds_clash f.kind g.kind

-- No field clashes with one behind it.
abbrev pub are_apart : List Field → Bool
are_apart [] = true
are_apart (field ∷ more) = list_all (λ other. not (clash field other)) more && are_apart more

-- Each field keeps its rules, and no two clash.
abbrev pub are_fields : List Field → Bool
are_fields fields = list_all is_field fields && are_apart fields

-- A schema, as contracts see it.
pub record Schema : Type 0 where
  pub fields : List Field
  -- Whether the stems of words are indexed, and asked for.
  pub stem : Bool

-- A schema that was checked: 1 to 64 fields that keep the rules.
pub record IsSchema (schema : Schema) : Type 0 where
  pub sound : are_fields schema.fields ≡ true
  pub some : 1 ≤ length schema.fields
  pub few : length schema.fields ≤ 64

-- The place of the first field with this name, from 0.
abbrev pub place_of : List ℕ → List Field → Option ℕ
place_of name fields = position (λ field. bytes_eq field.name name) fields
