-- A tree that a list leads.
use Rattle.std.specs.Prelude.{◌≤◌, ◌+◌, ℕ}
use Rattle.sk_index.specs.Indexed.{Indexed}
use Rattle.sk_tree.specs.declared.tree.Tree.{Tree}
use Rattle.sk_nodes.specs.Shapes.{shape_of}
use Rattle.sk_nodes.specs.Led.{IsLed, IsAtLead, led_room}

-- A list leads in the tree, and what it has spent and may still read, under any needs and from any targets, is no more than this.
pub record Rare (i : Indexed) (t : Tree) (most : ℕ) : Type 0 where
  pub led : IsLed i (shape_of t.node)
  pub at : IsAtLead i t.top (shape_of t.node)
  pub account : t.spent + led_room i (shape_of t.node) ≤ most
