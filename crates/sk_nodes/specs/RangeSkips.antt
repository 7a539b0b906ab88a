-- A range by the slot that an order goes by, which passes over values that come behind the last one wanted.
use Rattle.std.specs.Prelude.{◌≡◌, ℕ, List}
use Rattle.sk_base.specs.declared.rank.SortKey.{SortKey}
use Rattle.sk_values.specs.RangeCursor.{left}
use Rattle.sk_values.specs.Behind.{SkipsOn}
use Rattle.sk_index.specs.Indexed.{Indexed, slot_values}
use Rattle.sk_nodes.specs.declared.top.Top.{Top}
use Rattle.sk_nodes.specs.declared.range_node.RangeNode.{RangeNode}
use Rattle.sk_nodes.specs.RangeNode.{IsRangeOn}
use Rattle.sk_nodes.specs.Shapes.{Shape, range}
use Rattle.sk_nodes.specs.Sound.{IsTop}

-- A range by the key's slot went past its first entry and so many behind it, and this is the top of what is left.
pub record RangeSkips (i : Indexed) (key : SortKey) (last : List ℕ) (count : ℕ) (old new : RangeNode) (t : Top) : Type 0 where
  pub slot : old.slot ≡ key.slot
  pub same : new.slot ≡ old.slot
  pub on : IsRangeOn i new
  pub top : IsTop i t (range new)
  pub ceiling : t.greatest ≡ 0
  pub skips : SkipsOn key.reverse last count (left old.cursor (slot_values old.slot i.live.documents)) (left new.cursor (slot_values old.slot i.live.documents))

-- A node is such a range, and went on so.
pub record NodeSkips (i : Indexed) (key : SortKey) (last : List ℕ) (count : ℕ) (old new : Shape) (t : Top) : Type 0 where
  pub was : RangeNode
  pub is : RangeNode
  pub old_is : old ≡ range was
  pub new_is : new ≡ range is
  pub skips : RangeSkips i key last count was is t
