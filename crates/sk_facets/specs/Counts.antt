-- A walk over the matches of a query that counts their values.
use Rattle.std.specs.Prelude.{◌≡◌, ℕ, ◌++◌, List, [], ◌∷◌, map}
use Rattle.sk_base.specs.declared.find.Scheme.{Scheme}
use Rattle.sk_base.specs.Numbers.{Docs}
use Rattle.sk_query.specs.Trees as Query
use Rattle.sk_model.specs.Edits.{document_at}
use Rattle.sk_model.specs.Facets.{values_found}
use Rattle.sk_index.specs.Indexed.{Indexed, slot_value}
use Rattle.sk_tree.specs.Built.{left, Built}
use Rattle.sk_tree.specs.declared.tree.Tree.{Tree}
use Rattle.sk_facets.specs.declared.tally.Tally.{Tally}
use Rattle.sk_facets.specs.Tallied.{Knows}

-- What stands behind the first.
abbrev pub behind_first : {X : Type 0} → List X → List X
behind_first [] = []
behind_first (x ∷ xs) = xs

-- The values of what is left of a tree.
abbrev pub values_left : ℕ → Docs → List (ℕ × ℕ) → List (List ℕ)
values_left slot docs ids = map (λ p. slot_value slot (document_at p.0 docs)) ids

-- The tally saw the values of the matches that the tree went past, and those of what is left are the others.
pub record IsCounting (index : Indexed) (query : Query.Tree) (slot : ℕ) (tree : Tree) (tally : Tally) : Type 0 where
  pub built : Built tree index query Scheme.Bool
  pub need : tree.need ≡ 0
  pub seen : List (List ℕ)
  pub knows : Knows tally seen
  pub all : seen ++ values_left slot index.live.documents (left index tree) ≡ values_found query slot index.live.documents
