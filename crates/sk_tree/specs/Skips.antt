-- A tree that passes over matches whose values come behind the last one wanted.
use Rattle.std.specs.Prelude.{◌≡◌, ◌∷◌, ◌++◌, ℕ, true, List, length}
use Rattle.std.specs.List.{AllByRecursion}
use Rattle.sk_base.specs.declared.rank.SortKey.{SortKey}
use Rattle.sk_model.specs.Edits.{document_at}
use Rattle.sk_values.specs.Behind.{is_behind}
use Rattle.sk_index.specs.Indexed.{Indexed, slot_value}
use Rattle.sk_tree.specs.declared.tree.Tree.{Tree}
use Rattle.sk_tree.specs.Built.{left}
use Rattle.sk_tree.specs.Stops.{PaysToStop}
use Rattle.sk_tree.specs.Rare.{Rare}
use Rattle.sk_tree.specs.Decays.{Decays}

-- A match without weight, whose value in the key's slot comes behind this one in the order of the key.
pub record IsBehind (i : Indexed) (key : SortKey) (last : List ℕ) (p : ℕ × ℕ) : Type 0 where
  pub light : p.1 ≡ 0
  pub behind : is_behind key.reverse last (slot_value key.slot (document_at p.0 i.live.documents)) ≡ true

-- The first match was passed over, and so many behind it that come behind the last value; nothing weighs anything, and no account of terms is kept of such a tree.
pub record Skips (i : Indexed) (key : SortKey) (last : List ℕ) (count : ℕ) (old new : Tree) : Type 0 where
  pub first : ℕ × ℕ
  pub passed : List (ℕ × ℕ)
  pub is : left i old ≡ first ∷ (passed ++ left i new)
  pub counted : count ≡ length passed
  pub behind : AllByRecursion (IsBehind i key last) passed
  pub weightless : old.top.greatest ≡ 0
  pub no_stops : (point most : ℕ) → PaysToStop i old point most → ⊥
  pub not_rare : (most : ℕ) → Rare i old most → ⊥
  pub no_decays : (point greatest most : ℕ) → Decays i old point greatest most → ⊥
