-- Entries in pieces, with their number.
use Rattle.std.specs.Prelude.{◌≡◌, ℕ, List, length}
use Rattle.sk_sorted.specs.Runs.{flat, AreRuns}

-- The pieces of a list, with the number of all entries.
pub record ArePieces {X : Type 0} (pieces : List (List (ℕ × X))) (count : ℕ) : Type 0 where
  pub sound : AreRuns pieces
  pub count_is : length (flat pieces) ≡ count
