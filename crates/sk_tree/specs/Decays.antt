-- A tree of two lists of which one fades.
use Rattle.std.specs.Prelude.{◌≤◌, ◌<◌, ◌+◌, ◌⊎◌, ℕ, Bool, List}
use Rattle.sk_base.specs.declared.find.Scheme.{Scheme}
use Rattle.sk_model.specs.Bounds.{term_ceil}
use Rattle.sk_model.specs.Sharp.{decay_readings}
use Rattle.sk_index.specs.Indexed.{Indexed}
use Rattle.sk_tree.specs.declared.tree.Tree.{Tree}
use Rattle.sk_nodes.specs.Shapes.{shape_of}
use Rattle.sk_nodes.specs.Fading.{IsFading, fading_room, MayLeave}

-- A tree of two lists, of which one weighs no more than the greatest and is not wanted by itself behind the point: what it has spent and may still read is no more than this.
pub record Decays (i : Indexed) (t : Tree) (point greatest most : ℕ) : Type 0 where
  pub first : Bool
  pub fading : IsFading i greatest first (shape_of t.node)
  pub account : t.spent + fading_room i point first (shape_of t.node) ≤ most

-- A tree with this ceiling may be sought from the target under the need: the need exceeds the ceiling; or the target is at most the id behind the point; or nothing of the fading list is enough.
abbrev pub MayFall : ℕ → ℕ → ℕ → ℕ → ℕ → Type 0
MayFall point greatest target need ceiling = (ceiling < need) ⊎ MayLeave point greatest target need

-- A tree of an or of two terms, either of which may fade behind the point.
abbrev pub DecaysBoth : Indexed → Tree → Scheme → ℕ → List ℕ → List ℕ → Type 0
DecaysBoth i t scheme point a b =
    Decays i t point (term_ceil scheme 1 b i.live.documents) (decay_readings a b point i.live.documents 0) × Decays i t point (term_ceil scheme 1 a i.live.documents) (decay_readings b a point i.live.documents 0)
