-- Nodes, as every definition takes them.
use Rattle.std.specs.Prelude.{ℕ, ◌+◌, List, [], ◌∷◌, map}
use Rattle.sk_base.specs.declared.find.Scheme.{Scheme}
use Rattle.sk_query.specs.declared.form.Form.{Form}
use Rattle.sk_buckets.specs.declared.mark.Mark.{Mark}
use Rattle.sk_nodes.specs.declared.top.Top.{Top}
use Rattle.sk_nodes.specs.declared.leaf.Leaf.{Leaf}
use Rattle.sk_nodes.specs.declared.leaf.ListOf.{ListOf}
use Rattle.sk_nodes.specs.declared.wdfs.Wdfs.{Wdfs}
use Rattle.sk_nodes.specs.declared.range_node.RangeNode.{RangeNode}
use Rattle.sk_nodes.specs.declared.proximity.Proximity.{Proximity}
use Rattle.sk_nodes.specs.declared.merge.Merge.{Merge}
use Rattle.sk_nodes.specs.declared.node.Node.{Node, fold-Node}
use Rattle.sk_nodes.specs.declared.node.Node.TheOpen.{Node-F}

mutual
  -- A node: nothing, a leaf, the values in a range, two sides with their tops under a form, the sides of an xor, those of an or of many sides, a test of what a node gives, with its top, or the sums of wdfs that a node gives, with its top, each weighed by the scheme and the factor.
  pub data Shape : Type 0 where
    ended : Shape
    leaf : Leaf → Shape
    range : RangeNode → Shape
    pair : Form → Top → Shape → Top → Shape → Shape
    xor_many : Sides → Shape
    or_many : Sides → Shape
    positional : Proximity → Top → Shape → Shape
    synonym : Scheme → ℕ → Top → Shape → Shape

  -- Sides in order, each with its top.
  pub data Sides : Type 0 where
    no_sides : Sides
    side : Top → Shape → Sides → Sides

-- The sides as two lists have them.
abbrev pub sides_of : List Top → List Shape → Sides
sides_of [] ss = no_sides
sides_of (t ∷ ts) [] = no_sides
sides_of (t ∷ ts) (s ∷ ss) = side t s (sides_of ts ss)

-- Where a list stands, as a top.
abbrev pub top_at : Mark → Top
top_at m = record { head = m.head; weight = m.weight; greatest = m.greatest }

-- A list of wdfs with its mark, as a leaf.
abbrev pub leaf_at : Mark → Wdfs → Leaf
leaf_at m w = record { source = ListOf.Term w.number; scheme = Scheme.Nnn; factor = 1; cursor = w.cursor; need_wdf = 0; need = 0; greatest = m.greatest }

-- Lists with their marks as sides. A mark without a list is a side that gives nothing.
abbrev pub merged : List Mark → List Wdfs → Sides
merged [] ws = no_sides
merged (m ∷ ms) [] = side (top_at m) ended (merged ms [])
merged (m ∷ ms) (w ∷ ws) = side (top_at m) (leaf (leaf_at m w)) (merged ms ws)

-- All lists of a merge, the longest before the others.
abbrev pub gathered : Merge → Sides
gathered m = side m.longest_top (leaf m.longest) (merged m.queue m.leaves.items)

-- One layer of a node, its sides being shapes already.
abbrev pub node_step : Node-F Shape → Shape
node_step Node-F.Nothing = ended
node_step (Node-F.Leaf l) = leaf l
node_step (Node-F.Range r) = range r
node_step (Node-F.Pair form ta a tb b) = pair form ta a.value tb b.value
node_step (Node-F.XorMany tops nodes) = xor_many (sides_of tops.items nodes.items)
node_step (Node-F.OrMany tops nodes) = or_many (sides_of tops.items nodes.items)
node_step (Node-F.Merge m) = or_many (gathered m.value)
node_step (Node-F.Positional p t s) = positional p t s.value
node_step (Node-F.Synonym scheme factor t s) = synonym scheme factor t s.value

-- The shape of a node.
abbrev pub shape_of : Node → Shape
shape_of = fold-Node Shape node_step

-- The sides of nodes, with their tops.
abbrev pub sides_on : List Top → List Node → Sides
sides_on ts ns = sides_of ts (map shape_of ns)

abbrev mutual
  -- How many nodes there are.
  pub size_of : Shape → ℕ
  size_of (pair form ta a tb b) = 1 + (size_of a + size_of b)
  size_of (xor_many ss) = 1 + sizes_in ss
  size_of (or_many ss) = 1 + sizes_in ss
  size_of (positional p t s) = 1 + size_of s
  size_of (synonym scheme factor t s) = 1 + size_of s
  size_of _ = 1

  -- How many there are in all sides, each side itself counted.
  pub sizes_in : Sides → ℕ
  sizes_in no_sides = 0
  sizes_in (side t s ss) = 1 + (size_of s + sizes_in ss)
