-- What the lists of an index are to its documents.
use Rattle.std.specs.Prelude.{◌≡◌, ℕ, List}
use Rattle.sk_base.specs.Numbers.{Docs}
use Rattle.sk_sorted.specs.Runs.{flat}
use Rattle.sk_lists.specs.Lists.{Runs}
use Rattle.sk_slots.specs.declared.slot_lists.SlotEntry.{SlotEntry}
use Rattle.sk_slots.specs.Slotted.{slot_list}
use Rattle.sk_terms.specs.Listed.{Listed, list_of}
use Rattle.sk_index.specs.Indexed.{postings, all_postings, slot_values}

-- The list of each term is what the documents give.
abbrev pub AreListsOf : Docs → Listed → Type 0
AreListsOf docs listed = (t : List ℕ) → list_of t listed ≡ postings t docs

-- The list of each slot is.
abbrev pub AreSlotsOf : Docs → List SlotEntry → Type 0
AreSlotsOf docs slots = (slot : ℕ) → slot_list slot slots ≡ slot_values slot docs

-- Each list is what the documents give.
pub record ListsStand (all : Runs) (listed : Listed) (slots : List SlotEntry) (docs : Docs) : Type 0 where
  pub all_is : flat all ≡ all_postings docs
  pub lists : AreListsOf docs listed
  pub values : AreSlotsOf docs slots
