-- Entries, each an id and what stands with it, in order of the ids.
use Rattle.std.specs.Prelude.{ℕ, ◌<◌, ◌^◌, Bool, List, [], ◌∷◌, map, nat_lt, is_some, Option, None, Some, if◌then◌else◌}
use Rattle.std.specs.Ordering.{nat_cmp}
use Rattle.std.specs.BTreeMap.{insert_entry, is_at}
use Rattle.std.specs.Map.{remove_entry, lookup}

-- The ids rise strictly, the first above `low`.
abbrev pub RiseAbove : {X : Type 0} → ℕ → List (ℕ × X) → Type 0
RiseAbove low [] = Unit {0}
RiseAbove low (e ∷ es) = (low < e.0) × RiseAbove e.0 es

-- Each id is below `high`.
abbrev pub LieBelow : {X : Type 0} → ℕ → List (ℕ × X) → Type 0
LieBelow high [] = Unit {0}
LieBelow high (e ∷ es) = (e.0 < high) × LieBelow high es

-- The ids rise strictly, from 1 to 2 ^ 32 - 1.
pub record AreSorted {X : Type 0} (es : List (ℕ × X)) : Type 0 where
  pub rise : RiseAbove 0 es
  pub small : LieBelow (2 ^ 32) es

-- The entries with this one under this id: in the place of the one that is there, or as a new one in its place.
abbrev pub put : {X : Type 0} → ℕ → X → List (ℕ × X) → List (ℕ × X)
put id x es = insert_entry nat_cmp es id x

-- The entries without the one of this id.
abbrev pub without : {X : Type 0} → ℕ → List (ℕ × X) → List (ℕ × X)
without id es = remove_entry (is_at (nat_cmp id)) es

-- What stands with this id, if it is there.
abbrev pub found : {X : Type 0} → ℕ → List (ℕ × X) → Option X
found id es = lookup (is_at (nat_cmp id)) es

-- Whether there is an entry of this id.
abbrev pub has : {X : Type 0} → ℕ → List (ℕ × X) → Bool
has id es = is_some (found id es)

-- The entries from the first on whose id is at least the target.
abbrev pub from : {X : Type 0} → ℕ → List (ℕ × X) → List (ℕ × X)
from target [] = []
from target (e ∷ es) = if nat_lt e.0 target then from target es else e ∷ es

-- The id of the first entry.
abbrev pub first_id : {X : Type 0} → List (ℕ × X) → Option ℕ
first_id [] = None
first_id (e ∷ es) = Some e.0

-- The id of the last entry, `low` where there is none.
abbrev pub top_id : {X : Type 0} → ℕ → List (ℕ × X) → ℕ
top_id low [] = low
top_id low (e ∷ es) = top_id e.0 es

-- The ids of the entries.
abbrev pub ids_of : {X : Type 0} → List (ℕ × X) → List ℕ
ids_of es = map (λ e. e.0) es
