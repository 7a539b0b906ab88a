-- How nodes of two lists of which one fades are opened.
use Rattle.std.specs.Prelude.{◌≤◌, ◌+◌, ℕ, Bool, List}
use Rattle.sk_base.specs.declared.find.Scheme.{Scheme}
use Rattle.sk_base.specs.Numbers.{length_of}
use Rattle.sk_model.specs.Bounds.{term_ceil}
use Rattle.sk_model.specs.Sharp.{up, past, decay_readings}
use Rattle.sk_index.specs.Indexed.{Indexed}
use Rattle.sk_nodes.specs.declared.top.Top.{Top}
use Rattle.sk_nodes.specs.Shapes.{Shape}
use Rattle.sk_nodes.specs.Left.{greatest_held}
use Rattle.sk_nodes.specs.Flat.{room_to}
use Rattle.sk_nodes.specs.Led.{lead_unread}
use Rattle.sk_nodes.specs.Fading.{entries_behind, StandsOn, IsFading, fading_room}

-- The leaf of a term, or nothing, was opened, with this spent before and after.
pub record OpensAlone (i : Indexed) (t : Top) (s : Shape) (term : List ℕ) (greatest before after : ℕ) : Type 0 where
  pub stands : StandsOn i t s
  pub own : greatest_held s ≤ greatest
  pub to : (point : ℕ) → room_to i point s ≤ up term point i.live.documents
  pub behind : (point : ℕ) → entries_behind i point s ≤ past term point i.live.documents
  pub few : after ≤ before + 1
  pub paid : after + lead_unread i s ≤ before + length_of term i.live.documents

-- A node was opened over two terms of which the second fades, with this spent before and after.
abbrev pub OpensDecay : Indexed → Scheme → ℕ → Shape → List ℕ → List ℕ → ℕ → ℕ → Type 0
OpensDecay i scheme factor s a b before after = (point : ℕ) → (first : Bool) × (IsFading i (term_ceil scheme factor b i.live.documents) first s × (after + fading_room i point first s ≤ before + decay_readings a b point i.live.documents 0))

-- Either of the two may fade.
abbrev pub OpensFading : Indexed → Scheme → ℕ → Shape → List ℕ → List ℕ → ℕ → ℕ → Type 0
OpensFading i scheme factor s a b before after = OpensDecay i scheme factor s a b before after × OpensDecay i scheme factor s b a before after
