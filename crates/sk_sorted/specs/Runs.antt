-- Entries in order of their ids, cut into runs.
use Rattle.std.specs.Prelude.{◌≡◌, ℕ, zero, suc, ◌+◌, ◌<◌, ◌≤◌, ◌^◌, List, [], ◌∷◌, ◌++◌, length, take, get_or}
use Rattle.sk_sorted.specs.Entries.{RiseAbove, LieBelow, top_id}

-- The entries of all runs.
abbrev pub flat : {X : Type 0} → List (List (ℕ × X)) → List (ℕ × X)
flat [] = []
flat (r ∷ rs) = r ++ flat rs

-- The ids rise strictly along all runs, the first above `low`, and no run is empty.
abbrev pub RunsRise : {X : Type 0} → ℕ → List (List (ℕ × X)) → Type 0
RunsRise low [] = Unit {0}
RunsRise low (r ∷ rs) = RiseAbove low r × ((0 < length r) × RunsRise (top_id 0 r) rs)

-- The ids are below 2 ^ 32 besides.
pub record AreRuns {X : Type 0} (rs : List (List (ℕ × X))) : Type 0 where
  pub rise : RunsRise 0 rs
  pub small : LieBelow (2 ^ 32) (flat rs)

-- An edit of the id may be made in run i: smaller ids alone stand before that run, and greater ones alone behind it.
abbrev pub FitsAt : {X : Type 0} → ℕ → List (List (ℕ × X)) → ℕ → Type 0
FitsAt id [] i = ⊥
FitsAt id (r ∷ rs) zero = RiseAbove id (flat rs)
FitsAt id (r ∷ rs) (suc i) = (top_id 0 r < id) × FitsAt id rs i

-- A place behind so many entries of run i is one behind so many of all; behind the last run there is a place as well.
pub record IsPlace {X : Type 0} (rs : List (List (ℕ × X))) (i read passed : ℕ) : Type 0 where
  pub bound : i ≤ length rs
  pub within : read ≤ length (get_or rs i [])
  pub counted : passed ≡ length (flat (take i rs)) + read
