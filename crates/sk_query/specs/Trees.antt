-- Query trees, as every definition takes them.
use Rattle.std.specs.Prelude.{ℕ, List, [], ◌∷◌, map, codes, Option, Some, None}
use Rattle.sk_query.specs.declared.form.Form.{Form}
use Rattle.sk_query.specs.declared.query.Bound.{Bound}
use Rattle.sk_query.specs.declared.query.Query.{Query, fold-Query}
use Rattle.sk_query.specs.declared.query.Query.TheOpen.{Query-F}

-- An end of a range: none, a number that stands for its eight bytes, or bytes.
pub data Limit : Type 0 where
  unbounded : Limit
  number : ℕ → Limit
  bytes : List ℕ → Limit

mutual
  -- A query: one of nine forms without a part or with one, or one of the seven forms of several, with its parts.
  pub data Tree : Type 0 where
    nothing : Tree
    all : Tree
    term : List ℕ → Tree
    wildcard : List ℕ → Tree
    parts : Form → Trees → Tree
    near : ℕ → List (List ℕ) → Tree
    phrase : ℕ → List (List ℕ) → Tree
    synonym : List (List ℕ) → Tree
    scale : ℕ → Tree → Tree
    range : ℕ → Limit → Limit → Tree

  -- The parts of a query, in order.
  pub data Trees : Type 0 where
    no_trees : Trees
    tree : Tree → Trees → Trees

-- The parts as a list has them.
abbrev pub trees_from : List Tree → Trees
trees_from [] = no_trees
trees_from (t ∷ ts) = tree t (trees_from ts)

-- What a bound stands for.
abbrev pub limit_of : Bound → Limit
limit_of Bound.Unbounded = unbounded
limit_of (Bound.Number n) = number n
limit_of (Bound.Text text) = bytes text

-- One layer of a query, its parts being trees already.
abbrev pub query_step : Query-F Tree → Tree
query_step Query-F.Nothing = nothing
query_step Query-F.All = all
query_step (Query-F.Term t) = term t
query_step (Query-F.Wildcard t) = wildcard t
query_step (Query-F.And v) = parts Form.And (trees_from v.items)
query_step (Query-F.Or v) = parts Form.Or (trees_from v.items)
query_step (Query-F.Xor v) = parts Form.Xor (trees_from v.items)
query_step (Query-F.Max v) = parts Form.Max (trees_from v.items)
query_step (Query-F.AndNot v) = parts Form.AndNot (trees_from v.items)
query_step (Query-F.AndMaybe v) = parts Form.AndMaybe (trees_from v.items)
query_step (Query-F.Filter v) = parts Form.Filter (trees_from v.items)
query_step (Query-F.Near w texts) = near w texts
query_step (Query-F.Phrase w texts) = phrase w texts
query_step (Query-F.Synonym texts) = synonym texts
query_step (Query-F.Scale f q) = scale f q.value
query_step (Query-F.Range slot lo hi) = range slot (limit_of lo) (limit_of hi)

-- The tree of a query.
abbrev pub query_view : Query → Tree
query_view = fold-Query Tree query_step

-- The trees of queries.
abbrev pub queries_view : List Query → Trees
queries_view qs = trees_from (map query_view qs)

-- The form and the parts of a query of several, and none of any other.
abbrev pub form_of : Tree → Option (Form × Trees)
form_of nothing = None
form_of all = None
form_of (term t) = None
form_of (wildcard prefix) = None
form_of (parts form ts) = Some (form, ts)
form_of (near w texts) = None
form_of (phrase w texts) = None
form_of (synonym texts) = None
form_of (scale f t) = None
form_of (range slot lo hi) = None

-- The name of a form of several queries.
abbrev pub name_of : Form → List ℕ
name_of Form.And = codes "and"
name_of Form.Or = codes "or"
name_of Form.Xor = codes "xor"
name_of Form.Max = codes "max"
name_of Form.AndNot = codes "and_not"
name_of Form.AndMaybe = codes "and_maybe"
name_of Form.Filter = codes "filter"
