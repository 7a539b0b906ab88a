-- Documents of records, computed. (A text's words come from tables of characters, so rows with texts are in try_rows and in stored runs.)
use Rattle.std.proofs.Common.{◌≡◌, ℕ, true, false, List, [], ◌∷◌, codes, map, refl}
use Rattle.sk_base.specs.declared.doc_entry.DocTerm.{DocTerm}
use Rattle.sk_base.specs.declared.doc_entry.SlotValue.{SlotValue}
use Rattle.sk_base.specs.declared.record.Entry.{Entry}
use Rattle.sk_base.specs.declared.record.FieldValue.{FieldValue}
use Rattle.sk_base.specs.declared.schema.Field.{Field}
use Rattle.sk_base.specs.declared.schema.FieldKind.{FieldKind}
use Rattle.sk_stem.specs.Rules.{by_rules, rules_1a, rules_completing, rules_1c, rules_2, rules_3, rules_4}
use Rattle.sk_stem.specs.Stems.{stem, step_1a, step_1b, step_1c, step_2, step_3, step_4, step_5a, step_5b}
use Rattle.sk_model.specs.Documents.{Occurrence, Document, document_of, mentions_from, terms_of}

-- a schema of these kinds, and the document of these values
abbrev of_kind : FieldKind → Field
of_kind kind = record { name = codes "f"; kind = kind }

abbrev entry : ℕ → FieldValue → Entry
entry place value = record { field = place; value = value }

abbrev made : List FieldKind → List Entry → Document
made kinds values = document_of (record { fields = map of_kind kinds; stem = false }) (record { values = values; payload = [] })

abbrev terms_made : List FieldKind → List Entry → List DocTerm
terms_made kinds values = let doc : Document = made kinds values in doc.terms

abbrev values_made : List FieldKind → List Entry → List SlotValue
values_made kinds values = let doc : Document = made kinds values in doc.values

abbrev filtered : List ℕ → DocTerm
filtered term = record { term = term; wdf = 0; positions = [] }

-- filters: a repeat and an empty text, nothing at all, and what is not folded, in byte order
repeats : terms_made (FieldKind.Filter (codes "XCAT") ∷ []) (entry 0 (FieldValue.Filter (codes "dog" ∷ [] ∷ codes "dog" ∷ [])) ∷ []) ≡ filtered (codes "XCATdog") ∷ []
repeats = refl

no_texts : terms_made (FieldKind.Filter (codes "XCAT") ∷ []) (entry 0 (FieldValue.Filter []) ∷ []) ≡ []
no_texts = refl

as_it_stands : terms_made (FieldKind.Filter (codes "XCAT") ∷ []) (entry 0 (FieldValue.Filter (codes "dog" ∷ codes "Dog" ∷ codes "sea lion" ∷ [])) ∷ [])
    ≡ filtered (codes "XCAT:Dog") ∷ filtered (codes "XCATdog") ∷ filtered (codes "XCATsea lion") ∷ []
as_it_stands = refl

-- a number has eight bytes, and an empty word is no value
number : values_made (FieldKind.Number 255 ∷ []) (entry 0 (FieldValue.Number 258) ∷ []) ≡ record { slot = 255; value = 0 ∷ 0 ∷ 0 ∷ 0 ∷ 0 ∷ 0 ∷ 1 ∷ 2 ∷ [] } ∷ []
number = refl

no_number : values_made (FieldKind.Number 7 ∷ []) [] ≡ []
no_number = refl

word : values_made (FieldKind.Word 3 ∷ []) (entry 0 (FieldValue.Word (codes "Ab")) ∷ []) ≡ record { slot = 3; value = 65 ∷ 98 ∷ [] } ∷ []
word = refl

no_word : values_made (FieldKind.Word 0 ∷ FieldKind.Word 1 ∷ []) (entry 0 (FieldValue.Word []) ∷ entry 1 (FieldValue.Word (codes "a")) ∷ []) ≡ record { slot = 1; value = 97 ∷ [] } ∷ []
no_word = refl

-- by slot, in whatever order the fields stand
by_slot : values_made (FieldKind.Word 9 ∷ FieldKind.Word 2 ∷ FieldKind.Word 5 ∷ []) (entry 0 (FieldValue.Word (codes "b")) ∷ entry 1 (FieldValue.Word (codes "c")) ∷ entry 2 (FieldValue.Word (codes "a")) ∷ [])
    ≡ record { slot = 2; value = 99 ∷ [] } ∷ record { slot = 5; value = 97 ∷ [] } ∷ record { slot = 9; value = 98 ∷ [] } ∷ []
by_slot = refl

-- a word with its step, behind so many text fields
abbrev at : List ℕ → ℕ → ℕ → Occurrence
at term step before = record { prefix = []; term = term; step = step; before = before }

-- a second text field, with and without the first, and one behind a field that has no word
second_field : terms_of (mentions_from false 1 (at (codes "a") 1 0 ∷ at (codes "b") 1 0 ∷ at (codes "c") 1 1 ∷ []))
    ≡ record { term = codes "a"; wdf = 1; positions = 1 ∷ [] } ∷ record { term = codes "b"; wdf = 1; positions = 2 ∷ [] } ∷ record { term = codes "c"; wdf = 1; positions = 103 ∷ [] } ∷ []
second_field = refl

second_alone : terms_of (mentions_from false 1 (at (codes "c") 1 1 ∷ [])) ≡ record { term = codes "c"; wdf = 1; positions = 101 ∷ [] } ∷ []
second_alone = refl

one_between : terms_of (mentions_from false 1 (at (codes "a") 1 0 ∷ at (codes "a") 1 2 ∷ [])) ≡ record { term = codes "a"; wdf = 2; positions = 1 ∷ 202 ∷ [] } ∷ []
one_between = refl

-- steps of 256 and 1
steps : terms_of (mentions_from false 1 (at (codes "a") 256 0 ∷ at (codes "a") 256 0 ∷ at (codes "Sa") 1 1 ∷ []))
    ≡ record { term = codes "Sa"; wdf = 1; positions = 103 ∷ [] } ∷ record { term = codes "a"; wdf = 512; positions = 1 ∷ 2 ∷ [] } ∷ []
steps = refl

-- the stems of two fields with one prefix, of steps 256 and 1: each word adds its own field's step to its stem, and a stem has no place
stems : terms_of (mentions_from true 1 (at (codes "hopes") 256 0 ∷ at (codes "hoping") 1 1 ∷ at (codes "hope's") 1 1 ∷ []))
    ≡ record { term = codes "Zhope"; wdf = 257; positions = [] } ∷ record { term = codes "Zhope's"; wdf = 1; positions = [] }
    ∷ record { term = codes "hope's"; wdf = 1; positions = 103 ∷ [] } ∷ record { term = codes "hopes"; wdf = 256; positions = 1 ∷ [] } ∷ record { term = codes "hoping"; wdf = 1; positions = 102 ∷ [] } ∷ []
unfolding stem step_1a step_1b step_1c step_2 step_3 step_4 step_5a step_5b by_rules rules_1a rules_completing rules_1c rules_2 rules_3 rules_4
stems = refl

-- byte order: a term before those that it begins
in_byte_order : terms_of (mentions_from false 1 (at (codes "ab") 1 0 ∷ at (codes "b") 1 0 ∷ at (codes "a") 1 0 ∷ []))
    ≡ record { term = codes "a"; wdf = 1; positions = 3 ∷ [] } ∷ record { term = codes "ab"; wdf = 1; positions = 1 ∷ [] } ∷ record { term = codes "b"; wdf = 1; positions = 2 ∷ [] } ∷ []
in_byte_order = refl
