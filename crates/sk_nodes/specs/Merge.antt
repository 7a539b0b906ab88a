-- How far the lists of a merge have come, and how much one of them can weigh.
use Rattle.std.specs.Prelude.{◌+◌, ◌-◌, ◌^◌, ◌≤◌, ℕ, List, [], ◌∷◌, unwrap_or}
use Rattle.sk_buckets.specs.declared.mark.Mark.{Mark}
use Rattle.sk_index.specs.Indexed.{Indexed}
use Rattle.sk_nodes.specs.declared.leaf.Leaf.{Leaf}
use Rattle.sk_nodes.specs.declared.leaf.Block.{Block}
use Rattle.sk_nodes.specs.Leaves.{leaf_rest}

-- How many ids lists may still be moved on by, together.
abbrev pub ids_left : List Mark → ℕ
ids_left [] = 0
ids_left (m ∷ ms) = (2 ^ 32 - m.head) + ids_left ms

-- None of a leaf's entries weighs more than this block, from an id on up to its last one.
abbrev pub IsWithin : Indexed → Leaf → ℕ → Block → Type 0
IsWithin i l from b = (id : ℕ) → from ≤ id → id ≤ b.last → unwrap_or (leaf_rest i l id) 0 ≤ b.greatest
