-- A tree: what it still gives, and that what it keeps is so.
use Rattle.std.specs.Prelude.{◌≤◌, ◌<◌, ◌+◌, ◌^◌, ℕ, List, [], ◌∷◌, Option}
use Rattle.std.specs.List.{filter_map}
use Rattle.std.specs.Option.{option_map}
use Rattle.sk_base.specs.declared.find.Scheme.{Scheme}
use Rattle.sk_base.specs.Numbers.{Docs}
use Rattle.sk_model.specs.Documents.{Document}
use Rattle.sk_sorted.specs.Entries.{AreSorted}
use Rattle.sk_query.specs.Trees as Query
use Rattle.sk_model.specs.Scores.{score}
use Rattle.sk_model.specs.Bounds.{ceil}
use Rattle.sk_model.specs.Allowance.{leaf_readings}
use Rattle.sk_index.specs.Indexed.{Indexed}
use Rattle.sk_tree.specs.declared.tree.Tree.{Tree}
use Rattle.sk_nodes.specs.Shapes.{shape_of}
use Rattle.sk_nodes.specs.Left.{rest, unread_of}
use Rattle.sk_nodes.specs.Sound.{IsTop, Sound}

-- The weight that a tree still gives at an id.
abbrev pub gives : Indexed → Tree → ℕ → Option ℕ
gives i t id = rest i (shape_of t.node) id

-- Ids with their weights, of those documents that have one.
abbrev pub weighed_ids : (ℕ × Document → Option ℕ) → Docs → List (ℕ × ℕ)
weighed_ids f docs = filter_map (λ one. option_map (λ w. (one.0, w)) (f one)) docs

-- The ids and weights that a tree still gives, by rising ids.
abbrev pub left : Indexed → Tree → List (ℕ × ℕ)
left i t = weighed_ids (λ one. gives i t one.0) i.live.documents

-- The documents that a query matches, each scored by itself, under a factor.
abbrev pub scored : Query.Tree → Scheme → ℕ → Docs → List (ℕ × ℕ)
scored query scheme factor docs = weighed_ids (λ one. score query scheme factor one.1) docs

-- The weight of the first, 0 where there is none.
abbrev pub first_weight : List (ℕ × ℕ) → ℕ
first_weight [] = 0
first_weight (p ∷ ps) = p.1

-- A tree is on this index, whose documents stand by rising ids.
pub record IsTree (i : Indexed) (t : Tree) : Type 0 where
  pub top : IsTop i t.top (shape_of t.node)
  pub sound : Sound i (shape_of t.node)
  pub fits : t.top.greatest < 2 ^ 127
  pub room : t.spent + unread_of i (shape_of t.node) < 2 ^ 128
  pub documents : AreSorted i.live.documents

-- A tree was opened for this query, and was sought and closed since: it weighs no more than the query can, and what it has
-- read and may still read is no more than the lists of its leaves.
pub record Built (t : Tree) (i : Indexed) (query : Query.Tree) (scheme : Scheme) : Type 0 where
  pub tree : IsTree i t
  pub ceiling : t.top.greatest ≤ ceil query scheme 1 i.live.documents
  pub account : t.spent + unread_of i (shape_of t.node) ≤ leaf_readings query i.live.documents
