-- What a node is opened for.
use Rattle.std.specs.Prelude.{◌≡◌, ◌≤◌, ◌<◌, ◌+◌, ◌^◌, ℕ, nat_le, Bool, true, All, List, [], ◌∷◌, length, map, Option, None, Some, filter, is_some}
use Rattle.sk_base.specs.declared.find.Scheme.{Scheme}
use Rattle.sk_base.specs.Loads.{IsLight}
use Rattle.sk_sorted.specs.Entries.{AreSorted}
use Rattle.sk_dict.specs.Terms.{term_at, number_of}
use Rattle.sk_query.specs.declared.form.Form.{Form}
use Rattle.sk_query.specs.Trees as Query
use Rattle.sk_query.specs.Fits.{is_sound, are_sound, leaves_of, leaves_in}
use Rattle.sk_model.specs.Documents.{Document}
use Rattle.sk_model.specs.Edits.{document_at}
use Rattle.sk_model.specs.Combining.{combined}
use Rattle.sk_model.specs.Scores.{score, scores}
use Rattle.sk_index.specs.Indexed.{Indexed}
use Rattle.sk_nodes.specs.declared.top.Top.{Top}
use Rattle.sk_nodes.specs.Shapes.{Shape, Sides}
use Rattle.sk_nodes.specs.Left.{rests, greatest_sum}
use Rattle.sk_nodes.specs.Sound.{AreSound}
use Rattle.sk_nodes.specs.declared.proximity.ProximityKind.{ProximityKind}
use Rattle.sk_nodes.specs.Begun.{Yields}

-- What a document scores, if there is one.
abbrev pub score_of : Query.Tree → Scheme → ℕ → Option Document → Option ℕ
score_of query scheme factor None = None
score_of query scheme factor (Some document) = score query scheme factor document

-- What a document scores under a form of several parts, if there is one.
abbrev pub joint_score_of : Form → Query.Trees → Scheme → ℕ → Option Document → Option ℕ
joint_score_of form ts scheme factor None = None
joint_score_of form ts scheme factor (Some document) = combined form (scores ts scheme factor document)

-- What the second of two nodes is of, where the parts behind some first ones are put together by themselves.
abbrev pub others_of : Form → Form
others_of Form.And = Form.And
others_of Form.Or = Form.Or
others_of Form.Xor = Form.Xor
others_of Form.Max = Form.Max
others_of Form.AndNot = Form.Or
others_of Form.AndMaybe = Form.Or
others_of Form.Filter = Form.And

-- A nest of nodes of two sides: each form but an xor of three parts or more.
abbrev pub is_nest : Form → ℕ → Bool
is_nest Form.And n = true
is_nest Form.Or n = true
is_nest Form.Xor n = nat_le n 2
is_nest Form.Max n = true
is_nest Form.AndNot n = true
is_nest Form.AndMaybe n = true
is_nest Form.Filter n = true

-- What the parts score, if there is a document.
abbrev pub part_scores : Query.Trees → Scheme → ℕ → Option Document → List (Option ℕ)
part_scores Query.no_trees scheme factor o = []
part_scores (Query.tree t ts) scheme factor o = score_of t scheme factor o ∷ part_scores ts scheme factor o

-- A node yields these scores of the documents.
abbrev pub Opens : Indexed → Top → Shape → (Option Document → Option ℕ) → ℕ → Type 0
Opens i t s f most = Yields i t s (λ id. f (document_at id i.live.documents)) most

abbrev mutual
  -- How many queries there are in one, itself counted. Near and phrase are opened as an and of terms.
  pub query_size : Query.Tree → ℕ
  query_size Query.nothing = 1
  query_size Query.all = 1
  query_size (Query.term t) = 1
  query_size (Query.wildcard prefix) = 1
  query_size (Query.parts form ts) = 1 + parts_size ts
  query_size (Query.near window ts) = 3 + length ts
  query_size (Query.phrase window ts) = 3 + length ts
  query_size (Query.synonym ts) = 1
  query_size (Query.scale f t) = 1 + query_size t
  query_size (Query.range slot lo hi) = 1

  pub parts_size : Query.Trees → ℕ
  parts_size Query.no_trees = 0
  parts_size (Query.tree t ts) = query_size t + parts_size ts

-- How many parts there are.
abbrev pub part_count : Query.Trees → ℕ
part_count Query.no_trees = 0
part_count (Query.tree t ts) = 1 + part_count ts

-- A leaf can be opened on this index, with this spent, and so much of it allowed.
pub record CanRead (i : Indexed) (spent most : ℕ) : Type 0 where
  pub documents : AreSorted i.live.documents
  pub room : spent ≤ most
  pub small : most < 2 ^ 128

-- A node can be opened under this factor, since no document is beyond its limits.
pub record CanOpen (i : Indexed) (factor spent most : ℕ) : Type 0 where
  pub read : CanRead i spent most
  pub bounded : factor ≤ 65536
  pub light : All IsLight i.live.documents

-- A query of which a node can be opened under a factor.
pub record IsPart (factor : ℕ) (query : Query.Tree) : Type 0 where
  pub sound : is_sound factor query ≡ true
  pub leaves : leaves_of query ≤ 1024

-- Parts of which a node can be opened under a form and a factor.
pub record AreParts (form : Form) (factor : ℕ) (ts : Query.Trees) : Type 0 where
  pub some : 0 < part_count ts
  pub sound : are_sound factor ts ≡ true
  pub leaves : leaves_in ts ≤ 1024

-- The synonym of the terms with these numbers.
abbrev pub synonym_of : Indexed → List ℕ → Query.Tree
synonym_of i ns = Query.synonym (map (term_at i.terms) ns)

-- The wdfs of these terms in a document, added, if it has one of them: what their synonym scores under Nnn.
abbrev pub wdfs_of : Indexed → List ℕ → Option Document → Option ℕ
wdfs_of i ns o = score_of (synonym_of i ns) Scheme.Nnn 1 o

-- Sides give these lists of scores, and weigh no more together than this.
pub record OpensSides (i : Indexed) (ss : Sides) (f : Option Document → List (Option ℕ)) (most : ℕ) : Type 0 where
  pub sound : AreSound i ss
  pub gives : (id : ℕ) → rests i ss id ≡ f (document_at id i.live.documents)
  pub ceiling : greatest_sum ss ≤ most

-- Terms as queries, in order.
abbrev pub term_trees : List (List ℕ) → Query.Trees
term_trees [] = Query.no_trees
term_trees (t ∷ ts) = Query.tree (Query.term t) (term_trees ts)

-- The query of terms that stand so.
abbrev pub proximity_query : ProximityKind → ℕ → List (List ℕ) → Query.Tree
proximity_query ProximityKind.Near window ts = Query.near window ts
proximity_query ProximityKind.Phrase window ts = Query.phrase window ts

-- Those of these terms that have a number.
abbrev pub numbered : Indexed → List (List ℕ) → List (List ℕ)
numbered i ts = filter (λ t. is_some (number_of t i.terms)) ts
