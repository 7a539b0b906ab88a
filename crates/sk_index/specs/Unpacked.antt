-- The documents that packed ones are under a dictionary and the lists of the slots.
use Rattle.std.specs.Prelude.{ℕ, List, length, map}
use Rattle.std.specs.List.{AllByRecursion}
use Rattle.sk_sorted.specs.Entries.{RiseAbove}
use Rattle.sk_base.specs.Numbers.{Docs}
use Rattle.sk_documents.specs.Documented.{HasTerms}
use Rattle.sk_model.specs.Documents.{Document}
use Rattle.sk_lists.specs.Lists.{Runs}
use Rattle.sk_packed.specs.Packed.{NumberedTerm, AreKnown}
use Rattle.sk_packed.specs.Payloads.{Payloads, payload_of}
use Rattle.sk_slots.specs.declared.slot_lists.SlotEntry.{SlotEntry}
use Rattle.sk_slots.specs.Slotted.{values_at}
use Rattle.sk_terms.specs.Listed.{Listed}
use Rattle.sk_terms.specs.Named.{named_all}
use Rattle.sk_index.specs.Stands.{ListsStand}

-- The document whose terms are packed, under its id: its values stand in the lists of the slots, its payload among the payloads.
abbrev pub unpacked : List (List ℕ) → List SlotEntry → Payloads → ℕ → List NumberedTerm → Document
unpacked dict slots payloads id packed = record { terms = named_all dict packed; values = values_at id slots; payload = payload_of id payloads }

-- The same of several, with their ids.
abbrev pub unpacked_all : List (List ℕ) → List SlotEntry → Payloads → List (ℕ × List NumberedTerm) → Docs
unpacked_all dict slots payloads entries = map (λ e. (e.0, unpacked dict slots payloads e.0 e.1)) entries

-- The numbers of a packed document, with its id, have terms.
abbrev pub HasKnown : List (List ℕ) → ℕ × List NumberedTerm → Type 0
HasKnown dict entry = AreKnown (length dict) entry.1

-- What the keeper of an index holds: documents, the lists of all and of each term, those of the slots, and the payloads.
pub record Kept : Type 0 where
  pub documents : Docs
  pub all : Runs
  pub listed : Listed
  pub slots : List SlotEntry
  pub payloads : Payloads

-- The packed documents are in order under the dictionary, and each list is what they give with the values in the slots.
pub record AreWhole (all : Runs) (listed : Listed) (slots : List SlotEntry) (payloads : Payloads) (entries : List (ℕ × List NumberedTerm)) : Type 0 where
  pub known : AllByRecursion (HasKnown listed.terms) entries
  pub rise : RiseAbove 0 (unpacked_all listed.terms slots payloads entries)
  pub ordered : AllByRecursion HasTerms (unpacked_all listed.terms slots payloads entries)
  pub stand : ListsStand all listed slots (unpacked_all listed.terms slots payloads entries)
