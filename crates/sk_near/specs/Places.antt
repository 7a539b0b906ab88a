-- Where a bound stands among positions.
use Rattle.std.specs.Prelude.{◌<◌, ◌≤◌, ℕ, List, length, slice_index}

-- All positions before the place lie below the bound.
pub record IsPassed (bound : ℕ) (positions : List ℕ) (place : ℕ) : Type 0 where
  pub within : place ≤ length positions
  pub before : (k : ℕ) → k < place → slice_index positions k < bound

-- Positions before the lower place lie below the bound, and those from the upper one on do not: at one place, that is the bound's.
pub record IsParted (bound : ℕ) (positions : List ℕ) (low high : ℕ) : Type 0 where
  pub order : low ≤ high
  pub within : high ≤ length positions
  pub before : (k : ℕ) → k < low → slice_index positions k < bound
  pub behind : (k : ℕ) → high ≤ k → k < length positions → bound ≤ slice_index positions k
