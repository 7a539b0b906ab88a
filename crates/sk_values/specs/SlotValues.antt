-- The values of one slot: who has one, and which.
use Rattle.std.specs.Prelude.{◌≤◌, ℕ, zero, suc, List, [], ◌∷◌, length}
use Rattle.std.specs.List.{AllByRecursion}
use Rattle.std.specs.Option.{unwrap_or}
use Rattle.sk_sorted.specs.Entries.{AreSorted, found}

-- The entries of a list, each an id and the value there.
abbrev pub SlotValues : Type 0
SlotValues = List (ℕ × List ℕ)

-- The entries of a list, piece by piece.
abbrev pub SlotRuns : Type 0
SlotRuns = List SlotValues

-- No value is empty.
abbrev pub HaveValues : SlotValues → Type 0
HaveValues es = AllByRecursion (λ e. 1 ≤ length e.1) es

-- The ids rise strictly, from 1 to 2 ^ 32 - 1, and no value is empty.
pub record AreSlotValues (es : SlotValues) : Type 0 where
  pub sorted : AreSorted es
  pub some : HaveValues es

-- The value with this id, empty where there is none.
abbrev pub found_value : ℕ → SlotValues → List ℕ
found_value id es = unwrap_or (found id es) []

-- The value at a place, empty past the end.
abbrev pub value_at_place : SlotValues → ℕ → List ℕ
value_at_place [] i = []
value_at_place (e ∷ es) zero = e.1
value_at_place (e ∷ es) (suc i) = value_at_place es i
