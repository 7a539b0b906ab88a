-- A tree of terms alone that stops at a point.
use Rattle.std.specs.Prelude.{◌≤◌, ◌<◌, ◌+◌, ◌⊎◌, ℕ, Option}
use Rattle.sk_index.specs.Indexed.{Indexed}
use Rattle.sk_tree.specs.declared.tree.Tree.{Tree}
use Rattle.sk_nodes.specs.Shapes.{shape_of}
use Rattle.sk_nodes.specs.Flat.{room_to, IsFlat, IsPlain, MayGo}

-- A tree of terms alone: what it has spent, and what is left up to the point, is no more than this.
pub record PaysToStop (i : Indexed) (t : Tree) (point most : ℕ) : Type 0 where
  pub shape : IsFlat t.need (shape_of t.node) ⊎ IsPlain (shape_of t.node)
  pub account : t.spent + room_to i point (shape_of t.node) ≤ most

-- A tree with this ceiling, which gives this weight at the point, may be sought from the target under the need: the need
-- exceeds the ceiling; or the point is the last id; or nothing is needed, and the target is at most the id behind the point; or
-- the target is at most the point, and the document there weighs at least the need.
abbrev pub MayMove : ℕ → ℕ → ℕ → ℕ → Option ℕ → Type 0
MayMove point target need ceiling weight = (ceiling < need) ⊎ MayGo point target need weight
