-- The lists of the slots' values.
use Rattle.std.specs.Prelude.{◌≡◌, ◌≢◌, ◌≤◌, ◌+◌, ◌==◌, ℕ, List, [], ◌∷◌, Option, None, option_map, if◌then◌else◌}
use Rattle.std.specs.List.{filter_map}
use Rattle.sk_base.specs.declared.doc_entry.SlotValue.{SlotValue}
use Rattle.sk_base.specs.Documents.{has_value, value_in}
use Rattle.sk_sorted.specs.Entries.{put, without, found}
use Rattle.sk_sorted.specs.Runs.{flat}
use Rattle.sk_values.specs.SlotValues.{SlotValues, SlotRuns}
use Rattle.sk_slots.specs.declared.slot_lists.SlotEntry.{SlotEntry}

-- The pieces of the list of a slot, none where there is no list.
abbrev pub slot_pieces : ℕ → List SlotEntry → SlotRuns
slot_pieces slot [] = []
slot_pieces slot (one ∷ more) = if one.slot == slot then one.list else slot_pieces slot more

-- The list of a slot, empty where there is none.
abbrev pub slot_list : ℕ → List SlotEntry → SlotValues
slot_list slot [] = []
slot_list slot (one ∷ more) = if one.slot == slot then flat one.list else slot_list slot more

-- The document has this value in one slot, and no other list changed.
abbrev pub Sets : ℕ → ℕ → List ℕ → List SlotEntry → List SlotEntry → Type 0
Sets id own value old new = (slot : ℕ) → slot_list slot new ≡ (if own == slot then put id value (slot_list slot old) else slot_list slot old)

-- The document has these values, and no other list changed.
abbrev pub SetsAll : ℕ → List SlotValue → List SlotEntry → List SlotEntry → Type 0
SetsAll id values old new = (slot : ℕ) → slot_list slot new ≡ (if has_value slot values then put id (value_in slot values) (slot_list slot old) else slot_list slot old)

-- The document is out of each list, and no list lost more.
abbrev pub ClearsAll : ℕ → List SlotEntry → List SlotEntry → Type 0
ClearsAll id old new = (slot : ℕ) → slot_list slot new ≡ without id (slot_list slot old)

-- The slots rise strictly, the first from `low` on.
abbrev pub RiseFrom : ℕ → List SlotEntry → Type 0
RiseFrom low [] = Unit {0}
RiseFrom low (one ∷ more) = (low ≤ one.slot) × RiseFrom (one.slot + 1) more

-- The value of a document in one list, where it has one.
abbrev pub value_there : ℕ → SlotEntry → Option SlotValue
value_there id one = option_map (λ (value : List ℕ). record { slot = one.slot; value = value }) (found id (flat one.list))

-- The values of a document, by rising slot where the slots rise.
abbrev pub values_at : ℕ → List SlotEntry → List SlotValue
values_at id slots = filter_map (value_there id) slots

-- No list has the document.
abbrev pub IsNowhere : ℕ → List SlotEntry → Type 0
IsNowhere id slots = (slot : ℕ) → found id (slot_list slot slots) ≡ None

-- Each other document has the values that it had.
abbrev pub KeepsOthers : ℕ → List SlotEntry → List SlotEntry → Type 0
KeepsOthers id old new = (other : ℕ) → other ≢ id → values_at other new ≡ values_at other old
