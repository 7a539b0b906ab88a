-- What a node still gives.
use Rattle.std.specs.Prelude.{ℕ, ◌+◌, nat_le, List, [], ◌∷◌, Option, None, if◌then◌else◌}
use Rattle.std.specs.Option.{option_map}
use Rattle.sk_query.specs.declared.form.Form.{Form}
use Rattle.sk_model.specs.Combining.{combined, where_so}
use Rattle.sk_model.specs.Weights.{weigh_by}
use Rattle.sk_index.specs.Indexed.{Indexed}
use Rattle.sk_decay.specs.Sides.{paired, greatest_under}
use Rattle.sk_nodes.specs.Leaves.{leaf_rest, leaf_unread}
use Rattle.sk_nodes.specs.RangeNode.{range_rest, range_unread}
use Rattle.sk_nodes.specs.Shapes.{Shape, ended, leaf, range, pair, xor_many, or_many, positional, synonym, Sides, no_sides, side}
use Rattle.sk_nodes.specs.Proximity.{holds_in, entries_unread}

abbrev mutual
  -- The weight that a node still gives at an id.
  pub rest : Indexed → Shape → ℕ → Option ℕ
  rest i ended id = None
  rest i (leaf l) id = leaf_rest i l id
  rest i (range r) id = range_rest i r id
  rest i (pair form ta a tb b) id = paired form (rest i a id) (rest i b id)
  rest i (xor_many ss) id = combined Form.Xor (rests i ss id)
  rest i (or_many ss) id = combined Form.Or (rests i ss id)
  rest i (positional p t s) id = where_so (holds_in i p id) (rest i s id)
  rest i (synonym scheme factor t s) id = option_map (weigh_by factor scheme) (rest i s id)

  -- The weights that sides still give at an id.
  pub rests : Indexed → Sides → ℕ → List (Option ℕ)
  rests i no_sides id = []
  rests i (side t s ss) id = rest i s id ∷ rests i ss id

abbrev mutual
  -- How many entries of its lists a node has not read, and how many readings of positions are left.
  pub unread_of : Indexed → Shape → ℕ
  unread_of i ended = 0
  unread_of i (leaf l) = leaf_unread i l
  unread_of i (range r) = range_unread i r
  unread_of i (pair form ta a tb b) = unread_of i a + unread_of i b
  unread_of i (xor_many ss) = unread_in i ss
  unread_of i (or_many ss) = unread_in i ss
  unread_of i (positional p t s) = unread_of i s + entries_unread i p.next p.numbers.items
  unread_of i (synonym scheme factor t s) = unread_of i s

  -- How many entries of their lists sides have not read.
  pub unread_in : Indexed → Sides → ℕ
  unread_in i no_sides = 0
  unread_in i (side t s ss) = unread_of i s + unread_in i ss

-- How much sides can weigh together.
abbrev pub greatest_sum : Sides → ℕ
greatest_sum no_sides = 0
greatest_sum (side t s ss) = t.greatest + greatest_sum ss

-- How much a node that has not ended can weigh.
abbrev pub greatest_held : Shape → ℕ
greatest_held ended = 0
greatest_held (leaf l) = l.greatest
greatest_held (range r) = 0
greatest_held (pair form ta a tb b) = greatest_under form ta.greatest tb.greatest
greatest_held (xor_many ss) = greatest_sum ss
greatest_held (or_many ss) = greatest_sum ss
greatest_held (positional p t s) = t.greatest
greatest_held (synonym scheme factor t s) = weigh_by factor scheme t.greatest

-- What is given from an id on.
abbrev pub from_on : ℕ → (ℕ → Option ℕ) → ℕ → Option ℕ
from_on target f id = if nat_le target id then f id else None
