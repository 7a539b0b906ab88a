-- Parts that are opened as one query: those that are all the same wildcard or the same synonym, and a filter of all documents.
use Rattle.std.specs.Prelude.{◌≡◌, ◌≤◌, ◌⊎◌, ℕ, Option, None}
use Rattle.sk_base.specs.declared.find.Scheme.{Scheme}
use Rattle.sk_base.specs.Numbers.{Docs}
use Rattle.sk_query.specs.declared.form.Form.{Form}
use Rattle.sk_query.specs.Trees as Query
use Rattle.sk_model.specs.Documents.{Document}
use Rattle.sk_model.specs.Bounds.{ceil, ceils, ceil_of}
use Rattle.sk_model.specs.Allowance.{leaf_readings, leaves_readings}
use Rattle.sk_model.specs.Sharp.{terms_in}
use Rattle.sk_tree.specs.Opened.{IsPart, score_of, joint_score_of, query_size, parts_size}

-- Terms that count as one.
abbrev pub IsAsOne : Query.Tree → Type 0
IsAsOne (Query.wildcard prefix) = Unit {0}
IsAsOne (Query.synonym ts) = Unit {0}
IsAsOne _ = ⊥

-- The forms under which equal parts weigh as one under a greater factor.
abbrev pub IsAdding : Form → Type 0
IsAdding form = (form ≡ Form.Or) ⊎ (form ≡ Form.And)

-- Each part is this query.
abbrev pub AllAre : Query.Tree → Query.Trees → Type 0
AllAre query Query.no_trees = Unit {0}
AllAre query (Query.tree t ts) = (t ≡ query) × AllAre query ts

-- All parts are the same wildcard or the same synonym.
pub record AreEqual (query : Query.Tree) (ts : Query.Trees) : Type 0 where
  pub one : IsAsOne query
  pub all : AllAre query ts

-- The parts of a form are opened as one query under another factor.
pub record AreAsOne (form : Form) (factor : ℕ) (ts : Query.Trees) (query : Query.Tree) (all : ℕ) : Type 0 where
  pub part : IsPart all query
  pub size : query_size query ≤ parts_size ts
  pub scores : (scheme : Scheme) (o : Option Document) → joint_score_of form ts scheme factor o ≡ score_of query scheme all o
  pub ceiling : (scheme : Scheme) (docs : Docs) → ceil_of form (ceils ts scheme factor docs) ≡ ceil query scheme all docs
  pub readings : (docs : Docs) → leaf_readings query docs ≤ leaves_readings ts docs
  pub others : terms_in ts ≡ None
