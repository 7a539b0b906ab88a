-- The sides of a node of many sides: how they move, and where they stand.
use Rattle.std.specs.Prelude.{◌≤◌, ◌+◌, ℕ, Option}
use Rattle.sk_model.specs.Covers.{Covers}
use Rattle.sk_index.specs.Indexed.{Indexed}
use Rattle.sk_nodes.specs.Shapes.{Sides, no_sides, side}
use Rattle.sk_nodes.specs.Left.{rest, from_on}

-- One side was sought from the target on, by what holds of the others.
pub record SideIsSought (old new : ℕ → Option ℕ) (target : ℕ) (A : Type 0) : Type 0 where
  pub first : Covers (from_on target old) new 0
  pub others : A

-- Each side was sought from the target on, without a need.
abbrev pub AreSought : Indexed → ℕ → Sides → Sides → Type 0
AreSought i target no_sides no_sides = Unit {0}
AreSought i target no_sides (side u r rs) = ⊥
AreSought i target (side t s ss) no_sides = ⊥
AreSought i target (side t s ss) (side u r rs) = SideIsSought (rest i s) (rest i r) target (AreSought i target ss rs)

-- No side begins before.
abbrev pub AreFrom : ℕ → Sides → Type 0
AreFrom from no_sides = Unit {0}
AreFrom from (side t s ss) = (from ≤ t.head) × AreFrom from ss

-- Sides, and others behind them.
abbrev pub followed_by : Sides → Sides → Sides
followed_by no_sides rs = rs
followed_by (side t s ss) rs = side t s (followed_by ss rs)

-- What sides weigh where each of them begins.
abbrev pub weight_sum : Sides → ℕ
weight_sum no_sides = 0
weight_sum (side t s ss) = t.weight + weight_sum ss
