-- Whether indexes take turns is a fact that has one proof at most.
use Rattle.std.specs.Prelude.{ℕ, List, [], ◌∷◌, map}
use Rattle.std.specs.List.{AllByRecursion-prop}
use Rattle.std.specs.Coded.{×_prop, Unit-prop, le_prop}
use Rattle.sk_base.specs.Numbers.{Docs}
use Rattle.sk_sorted.specs.Entries.{RiseAbove, LieBelow}
use Rattle.sk_sorted.specs.Joined.{AllRise, joined}
use Rattle.sk_documents.specs.Turned.{AreTurns}
use Rattle.sk_index.specs.Indexed.{Indexed}

module _ {X : Type 0} where
  RiseAbove-prop : (low : ℕ) (es : List (ℕ × X)) → IsProp (RiseAbove low es)
  RiseAbove-prop low [] = Unit-prop
  RiseAbove-prop low (e ∷ es) = ×_prop le_prop (RiseAbove-prop e.0 es)

  LieBelow-prop : (high : ℕ) (es : List (ℕ × X)) → IsProp (LieBelow high es)
  LieBelow-prop high [] = Unit-prop
  LieBelow-prop high (e ∷ es) = ×_prop le_prop (LieBelow-prop high es)

  AllRise-prop : (parts : List (List (ℕ × X))) → IsProp (AllRise parts)
  AllRise-prop parts = AllByRecursion-prop (RiseAbove 0) (RiseAbove-prop 0) parts

abbrev docs_in : Indexed → Docs
docs_in i = i.live.documents

pub AreTurns-prop : (indexes : List Indexed) → IsProp (AreTurns docs_in indexes)
AreTurns-prop indexes =
    let rise = AllRise-prop (map docs_in indexes) in
    let small = LieBelow-prop 4294967296 (joined (map docs_in indexes)) in
    hlevel (le_prop, rise, small)
