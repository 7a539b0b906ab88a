-- What an opening reads, and what pays for it.
use Rattle.std.specs.Prelude.{◌≡◌, ◌≤◌, ◌<◌, ◌+◌, ◌^◌, ℕ}

-- What an opening spent and left unread is no more than `most` rose by, that no more than the readings of its leaves, and all that is spent
-- no more than `most`.
pub record Pays (spent spent_after most most_after unread readings : ℕ) : Type 0 where
  pub paid : spent_after + unread + most ≤ spent + most_after
  pub within : most_after ≤ most + readings
  pub room : spent_after ≤ most_after

-- Whether memory was there or not: each reading that is spent is counted, and none is taken back.
pub record CountsReadings (spent spent_after steps steps_after most_after : ℕ) : Type 0 where
  pub counted : steps_after + spent ≡ steps + spent_after
  pub later : spent ≤ spent_after
  pub small : most_after < 2 ^ 128
