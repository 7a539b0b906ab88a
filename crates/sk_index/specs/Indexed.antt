-- What an index holds, and what its readers give.
use Rattle.std.specs.Prelude.{◌≡◌, ◌<◌, ℕ, true, false, List, [], length, map, sum_by, All, AllPairs, Option, Some, None, slice_index_or, if◌then◌else◌}
use Rattle.std.specs.List.{filter_map, list_any}
use Rattle.sk_chunks.specs.Postings.{Postings}
use Rattle.sk_lists.specs.Lists.{Runs}
use Rattle.sk_values.specs.SlotValues.{SlotValues, SlotRuns}
use Rattle.sk_base.specs.declared.schema.Schema.{Schema}
use Rattle.sk_base.specs.Documents.{has_term, wdf_of, positions_of, begins_with, has_value, value_in}
use Rattle.sk_base.specs.declared.doc_entry.DocTerm.{DocTerm}
use Rattle.sk_base.specs.Numbers.{Docs, length_of, greatest_of, some_has, terms_with}
use Rattle.sk_dict.specs.Terms.{term_at, number_of, Precedes}
use Rattle.sk_model.specs.Documents.{Document}
use Rattle.sk_model.specs.Edits.{Live, document_at}
use Rattle.sk_model.specs.Scores.{wild_wdf}
use Rattle.sk_slots.specs.declared.slot_lists.SlotEntry.{SlotEntry}
use Rattle.sk_slots.specs.Slotted.{slot_pieces}

-- What an index holds: the schema, the live documents, the terms that were given a number, by number, and
-- how the list of all documents, that of each term and that of each slot are cut.
pub record Indexed : Type 0 where
  pub schema : Schema
  pub live : Live
  pub terms : List (List ℕ)
  pub all : Runs
  pub lists : List Runs
  pub slots : List SlotEntry

-- The chunks of the list of a term, by its number, and of all documents.
abbrev pub list_runs : Indexed → Option ℕ → Runs
list_runs i None = i.all
list_runs i (Some n) = slice_index_or i.lists n []

-- The pieces of the list of a slot.
abbrev pub pieces_in : Indexed → ℕ → SlotRuns
pieces_in i slot = slot_pieces slot i.slots

-- The posting of a document that has the term.
abbrev pub posting_in : List ℕ → ℕ × Document → Option (ℕ × ℕ)
posting_in t one = if has_term t one.1.terms then Some (one.0, wdf_of t one.1.terms) else None

-- The documents that have the term, with its wdf in each.
abbrev pub postings : List ℕ → Docs → Postings
postings t docs = filter_map (posting_in t) docs

-- All documents, with the wdf 0.
abbrev pub all_postings : Docs → Postings
all_postings docs = map (λ one. (one.0, 0)) docs

-- The value of a document in a slot, where it has one.
abbrev pub valued_in : ℕ → ℕ × Document → Option (ℕ × List ℕ)
valued_in slot one = if has_value slot one.1.values then Some (one.0, value_in slot one.1.values) else None

-- The documents that have a value in the slot, with these.
abbrev pub slot_values : ℕ → Docs → SlotValues
slot_values slot docs = filter_map (valued_in slot) docs

-- The value of the document in the slot, and the empty one where there is none.
abbrev pub slot_value : ℕ → Option Document → List ℕ
slot_value slot None = []
slot_value slot (Some document) = value_in slot document.values

-- The positions of the term in the document, and none where there is no document.
abbrev pub term_positions : List ℕ → Option Document → List ℕ
term_positions t None = []
term_positions t (Some document) = positions_of t document.terms

-- These terms have the positions that the terms of the document have, and none where there is no document.
abbrev pub HavePositions : List DocTerm → Option Document → Type 0
HavePositions terms o = (t : List ℕ) → positions_of t terms ≡ term_positions t o

-- No live document has a term without a number.
abbrev pub AreNumbered : Indexed → Type 0
AreNumbered i = (t : List ℕ) → number_of t i.terms ≡ None → some_has t i.live.documents ≡ false

-- Numbers of terms that begin with the prefix, in byte order. Over these terms a wildcard matches, weighs and is counted as
-- over each live document's own, so none that a live document has is missing.
pub record AreAllWith (prefix : List ℕ) (terms : List (List ℕ)) (docs : Docs) (ns : List ℕ) : Type 0 where
  pub there : All (λ n. n < length terms) ns
  pub begins : All (λ n. begins_with (term_at terms n) prefix ≡ true) ns
  pub rising : AllPairs (λ m n. Precedes (term_at terms m) (term_at terms n)) ns
  pub matches : (id : ℕ) (d : Document) → document_at id docs ≡ Some d
      → list_any (λ one. begins_with one.term prefix) d.terms ≡ list_any (λ n. has_term (term_at terms n) d.terms) ns
  pub wdfs : (id : ℕ) (d : Document) → document_at id docs ≡ Some d → wild_wdf prefix d.terms ≡ sum_by (λ n. wdf_of (term_at terms n) d.terms) ns
  pub lengths : sum_by (λ n. length_of (term_at terms n) docs) ns ≡ sum_by (λ t. length_of t docs) (terms_with prefix docs)
  pub greatest : sum_by (λ n. greatest_of (term_at terms n) docs) ns ≡ sum_by (λ t. greatest_of t docs) (terms_with prefix docs)
