-- Which document a record makes under a schema.
-- Source: Xapian's API documentation (`Document`, `TermGenerator` with `increase_termpos` and `STEM_SOME`, boolean terms, `add_value`). That a schema decides which field gives what, and the limit of 64 bytes on a word's term, are own.
use Rattle.std.specs.Prelude.{ℕ, ◌+◌, ◌*◌, ◌==◌, nat_lt, nat_le, bytes_eq, Bool, false, List, [], ◌∷◌, ◌++◌, length, map, filter, fold, Option, Some, None, if◌then◌else◌}
use Rattle.std.specs.Ordering.{nat_cmp, match_ordering}
use Rattle.std.specs.Cmp.Lexicographic.{slice_cmp}
use Rattle.std.specs.Int.{to_be_bytes, w64}
use Rattle.std.specs.List.{list_any}
use Rattle.sk_text.specs.declared.word.Word.{Word}
use Rattle.sk_text.specs.Words.{words}
use Rattle.sk_base.specs.declared.doc.Doc.{Doc}
use Rattle.sk_base.specs.declared.doc_entry.DocTerm.{DocTerm}
use Rattle.sk_base.specs.declared.doc_entry.SlotValue.{SlotValue}
use Rattle.sk_base.specs.declared.record.Record.{Record}
use Rattle.sk_base.specs.declared.record.Entry.{Entry}
use Rattle.sk_base.specs.declared.record.FieldValue.{FieldValue}
use Rattle.sk_base.specs.declared.schema.Field.{Field}
use Rattle.sk_base.specs.declared.schema.FieldKind.{FieldKind}
use Rattle.sk_base.specs.declared.schema.Schema.{Schema}
use Rattle.sk_base.specs.Fields.{kind_slot}
use Rattle.sk_base.specs.Terms.{prefixed, is_given}
use Rattle.sk_stem.specs.Terms.{stem_term}

-- A document: its terms with wdf and positions, its values by slot, and its payload.
abbrev pub Document : Type 0
Document = Doc

-- The value that a record gives for the field at this place, if any.
abbrev pub value_at : ℕ → List Entry → Option FieldValue
value_at place [] = None
value_at place (entry ∷ entries) = if entry.field == place then Some entry.value else value_at place entries

-- An occurrence of an indexed word: the prefix of its field, the word's term, the field's step, and how many text fields of the schema stand before its own.
pub record Occurrence : Type 0 where
  pub prefix : List ℕ
  pub term : List ℕ
  pub step : ℕ
  pub before : ℕ

-- A word is indexed where its term has at most 64 bytes, however long its stem is.
abbrev pub is_indexed : Word → Bool
is_indexed word = nat_le (length word.term) 64

-- A word as an occurrence in a field.
abbrev pub occurrence : List ℕ → ℕ → ℕ → Word → Occurrence
occurrence prefix step before word = record { prefix = prefix; term = word.term; step = step; before = before }

-- The occurrences in a text: its indexed words, in order.
abbrev pub occurrences_in : List ℕ → ℕ → ℕ → List ℕ → List Occurrence
occurrences_in prefix step before text = map (occurrence prefix step before) (filter is_indexed (words text))

-- The occurrences that a value gives in a field: those of a text in a text field, and else none.
abbrev pub occurrences_of : FieldKind → ℕ → Option FieldValue → List Occurrence
occurrences_of (FieldKind.Text prefix step) before (Some (FieldValue.Text text)) = occurrences_in prefix step before text
occurrences_of _ before _ = []

-- How many text fields this is: one or none.
abbrev pub text_fields : FieldKind → ℕ
text_fields (FieldKind.Text prefix step) = 1
text_fields (FieldKind.Filter prefix) = 0
text_fields (FieldKind.Number slot) = 0
text_fields (FieldKind.Word slot) = 0

-- The occurrences in these fields, in the order of the schema; the first of them stands at this place, behind so many text fields.
abbrev pub occurrences_from : ℕ → ℕ → List Field → List Entry → List Occurrence
occurrences_from place before [] values = []
occurrences_from place before (field ∷ fields) values =
    occurrences_of field.kind before (value_at place values) ++ occurrences_from (place + 1) (before + text_fields field.kind) fields values

-- An occurrence as the p-th indexed word of the record: its position is p, and 100 more for each text field of the schema before its own, whether or not the record has these.
abbrev pub placed_at : ℕ → Occurrence → DocTerm
placed_at p o = record { term = prefixed o.prefix o.term; wdf = o.step; positions = (p + 100 * o.before) ∷ [] }

-- The stem of an occurrence: it has the step as the word has, and no position.
abbrev pub stem_of : Occurrence → DocTerm
stem_of o = record { term = stem_term o.prefix o.term; wdf = o.step; positions = [] }

-- What the p-th indexed word mentions: itself, and its stem where the schema asks for stems.
abbrev pub mentions_at : Bool → ℕ → Occurrence → List DocTerm
mentions_at stems p o = if stems then placed_at p o ∷ stem_of o ∷ [] else placed_at p o ∷ []

-- What the occurrences mention, the first being the p-th indexed word.
abbrev pub mentions_from : Bool → ℕ → List Occurrence → List DocTerm
mentions_from stems p [] = []
mentions_from stems p (o ∷ os) = mentions_at stems p o ++ mentions_from stems (p + 1) os

-- What the indexed words of a record mention.
abbrev pub word_mentions : Schema → List Entry → List DocTerm
word_mentions schema values = mentions_from schema.stem 1 (occurrences_from 0 0 schema.fields values)

-- A filter's text as a term, with wdf 0 and no position. It is not folded.
abbrev pub filter_term : List ℕ → List ℕ → DocTerm
filter_term prefix text = record { term = prefixed prefix text; wdf = 0; positions = [] }

-- The terms that a value gives in a filter field: one for each text that is not empty.
abbrev pub filter_terms_of : FieldKind → Option FieldValue → List DocTerm
filter_terms_of (FieldKind.Filter prefix) (Some (FieldValue.Filter texts)) = map (filter_term prefix) (filter is_given texts)
filter_terms_of _ _ = []

-- The terms of the filters among these fields, the first of which stands at this place.
abbrev pub filter_terms_from : ℕ → List Field → List Entry → List DocTerm
filter_terms_from place [] values = []
filter_terms_from place (field ∷ fields) values = filter_terms_of field.kind (value_at place values) ++ filter_terms_from (place + 1) fields values

-- All that a record mentions: its indexed words, their stems if the schema asks for them, and the texts of its filters.
abbrev pub mentions : Schema → List Entry → List DocTerm
mentions schema values = word_mentions schema values ++ filter_terms_from 0 schema.fields values

-- A term with one mention more: the wdfs are added, and its places put last.
abbrev pub merged : DocTerm → DocTerm → DocTerm
merged one mention = record { term = one.term; wdf = one.wdf + mention.wdf; positions = one.positions ++ mention.positions }

-- The terms with one mention more, in byte order: a new term in its place, or one that is there joined with it.
abbrev pub noted : List DocTerm → DocTerm → List DocTerm
noted [] mention = mention ∷ []
noted (one ∷ more) mention =
    match_ordering (slice_cmp nat_cmp mention.term one.term) (mention ∷ one ∷ more) (merged one mention ∷ more) (one ∷ noted more mention)

-- The terms of a document: of all that is mentioned, each term once.
abbrev pub terms_of : List DocTerm → List DocTerm
terms_of mentioned = fold noted [] mentioned

-- The mentions of a term.
abbrev pub mentions_of : List ℕ → List DocTerm → List DocTerm
mentions_of t mentioned = filter (λ m. bytes_eq m.term t) mentioned

-- A slot with its value, where that is not empty.
abbrev pub given_value : ℕ → List ℕ → List SlotValue
given_value slot value = if is_given value then record { slot = slot; value = value } ∷ [] else []

-- The value that a field gives to its slot: a number's eight bytes, the most significant first, or the bytes of a word.
abbrev pub slot_values_of : FieldKind → Option FieldValue → List SlotValue
slot_values_of (FieldKind.Number slot) (Some (FieldValue.Number n)) = given_value slot (to_be_bytes w64 n)
slot_values_of (FieldKind.Word slot) (Some (FieldValue.Word text)) = given_value slot text
slot_values_of _ _ = []

-- The values of these fields, the first of which stands at this place.
abbrev pub slot_values_from : ℕ → List Field → List Entry → List SlotValue
slot_values_from place [] values = []
slot_values_from place (field ∷ fields) values = slot_values_of field.kind (value_at place values) ++ slot_values_from (place + 1) fields values

-- The values with one more in its place, by rising slot. (No two fields of a schema share a slot.)
abbrev pub with_value : List SlotValue → SlotValue → List SlotValue
with_value [] v = v ∷ []
with_value (one ∷ more) v = if nat_lt v.slot one.slot then v ∷ one ∷ more else one ∷ with_value more v

-- The values of a document, by rising slot.
abbrev pub values_of : List SlotValue → List SlotValue
values_of given = fold with_value [] given

-- The document that a record makes under a schema.
abbrev pub document_of : Schema → Record → Document
document_of schema given = record {
  terms = terms_of (mentions schema given.values);
  values = values_of (slot_values_from 0 schema.fields given.values);
  payload = given.payload;
}

-- There is a slot, and it is this one.
abbrev pub is_own : ℕ → Option ℕ → Bool
is_own slot None = false
is_own slot (Some own) = own == slot

-- A field of this kind keeps its values in the slot.
abbrev pub keeps_slot : ℕ → FieldKind → Bool
keeps_slot slot kind = is_own slot (kind_slot kind)

-- One of the fields keeps its values in the slot.
abbrev pub has_slot : ℕ → List Field → Bool
has_slot slot fields = list_any (λ field. keeps_slot slot field.kind) fields
