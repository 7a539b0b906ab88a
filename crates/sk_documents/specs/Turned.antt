-- Keepers that take turns.
use Rattle.std.specs.Prelude.{◌≤◌, ◌^◌, List, map, length}
use Rattle.sk_sorted.specs.Entries.{LieBelow}
use Rattle.sk_base.specs.Numbers.{Docs}
use Rattle.sk_sorted.specs.Joined.{joined, AllRise}

-- The keepers, in the order of their turns.
pub record Turned (K : Type 0) : Type 0 where
  pub parts : List K

-- There is one, and no more than 16; in each the ids rise from 1; and under joined ids all are below 2 ^ 32.
pub record AreTurns {K : Type 0} (documents : K → Docs) (parts : List K) : Type 0 where
  pub some : 1 ≤ length parts
  pub few : length parts ≤ 16
  pub rise : AllRise (map documents parts)
  pub small : LieBelow (2 ^ 32) (joined (map documents parts))
