-- Elements that come more than once.
use Rattle.std.specs.Prelude.{◌≡◌, ◌≤◌, ◌<◌, ℕ, List, length, All, slice_index, slice_index_or}
use Rattle.std.specs.List.{Contains}

-- The second list has what the first has, and no more than that; it is no longer.
pub record HaveSame (all once : List ℕ) : Type 0 where
  pub fewer : length once ≤ length all
  pub there : All (Contains once) all
  pub only : All (Contains all) once

-- For each element from one on, where a run of equal ones ends that begins with it.
pub record AreRunEndsFrom {X : Type 0} (from : ℕ) (ends : List ℕ) (xs : List X) : Type 0 where
  pub each : length xs ≤ length ends
  pub behind : (i : ℕ) → from ≤ i → i < length xs → i < slice_index ends i
  pub within : (i : ℕ) → from ≤ i → i < length xs → slice_index ends i ≤ length xs
  pub equal : (i j : ℕ) (d : X) → from ≤ i → i < length xs → i ≤ j → j < slice_index ends i → slice_index_or xs j d ≡ slice_index_or xs i d

-- For each element, where a run of equal ones ends that begins with it.
abbrev pub AreRunEnds : {X : Type 0} → List ℕ → List X → Type 0
AreRunEnds ends xs = AreRunEndsFrom 0 ends xs
