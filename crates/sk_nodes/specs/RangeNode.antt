-- The values of a slot that lie in a range.
use Rattle.std.specs.Prelude.{◌≡◌, ℕ, length, map, Option, None}
use Rattle.sk_base.specs.declared.find.Scheme.{Scheme}
use Rattle.sk_sorted.specs.Entries.{AreSorted}
use Rattle.sk_sorted.specs.Runs.{flat}
use Rattle.sk_chunks.specs.Postings.{Postings}
use Rattle.sk_values.specs.SlotValues.{SlotValues}
use Rattle.sk_values.specs.RangeCursor.{unread, left, IsOn}
use Rattle.sk_model.specs.Edits.{document_at}
use Rattle.sk_index.specs.Indexed.{Indexed, pieces_in, slot_values}
use Rattle.sk_nodes.specs.declared.range_node.RangeNode.{RangeNode}
use Rattle.sk_nodes.specs.Leaves.{weighed}

-- The ids of entries, without weight.
abbrev pub unweighed : SlotValues → Postings
unweighed es = map (λ e. (e.0, 0)) es

-- The entries that are left to a range node.
abbrev pub range_entries : Indexed → RangeNode → Postings
range_entries i r = unweighed (left r.cursor (slot_values r.slot i.live.documents))

-- The weight that a range node still gives at an id: none but 0.
abbrev pub range_rest : Indexed → RangeNode → ℕ → Option ℕ
range_rest i r id = weighed 0 Scheme.Bool (range_entries i r) id

-- How many entries a range node has not come past.
abbrev pub range_unread : Indexed → RangeNode → ℕ
range_unread i r = length (unread r.cursor (slot_values r.slot i.live.documents))

-- A range node stands on the list of its slot, which has the values there.
pub record IsRangeOn (i : Indexed) (r : RangeNode) : Type 0 where
  pub on : IsOn r.cursor (pieces_in i r.slot)
  pub values : flat (pieces_in i r.slot) ≡ slot_values r.slot i.live.documents
  pub sorted : AreSorted (range_entries i r)
  pub live : (id : ℕ) → document_at id i.live.documents ≡ None → range_rest i r id ≡ None
