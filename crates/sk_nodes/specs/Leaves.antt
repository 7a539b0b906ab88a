-- What a leaf still gives.
use Rattle.std.specs.Prelude.{◌≡◌, ◌≤◌, ◌<◌, ◌^◌, ℕ, List, [], ◌∷◌, length, nat_lt, Option, None, Some, unwrap_or, if◌then◌else◌}
use Rattle.std.specs.Option.{option_map}
use Rattle.sk_base.specs.declared.find.Scheme.{Scheme}
use Rattle.sk_sorted.specs.Entries.{found}
use Rattle.sk_chunks.specs.Postings.{Postings, greatest_wdf}
use Rattle.sk_sorted.specs.Runs.{AreRuns}
use Rattle.sk_lists.specs.Lists.{Runs}
use Rattle.sk_lists.specs.Cursor.{unread, left, IsOn}
use Rattle.sk_dict.specs.Terms.{term_at}
use Rattle.sk_model.specs.Edits.{document_at}
use Rattle.sk_model.specs.Weights.{weigh_by}
use Rattle.sk_index.specs.Indexed.{Indexed, list_runs, postings, all_postings}
use Rattle.sk_nodes.specs.declared.leaf.Leaf.{Leaf}
use Rattle.sk_nodes.specs.declared.leaf.ListOf.{ListOf}

-- The list of a term by its number, and of all documents.
abbrev pub list_in : Indexed → ListOf → Postings
list_in i ListOf.All = all_postings i.live.documents
list_in i (ListOf.Term n) = postings (term_at i.terms n) i.live.documents

-- The number was given for a term.
abbrev pub IsThere : ListOf → List (List ℕ) → Type 0
IsThere ListOf.All terms = Unit {0}
IsThere (ListOf.Term n) terms = n < length terms

-- The list in its pieces, as it is kept.
abbrev pub runs_of : Indexed → ListOf → Runs
runs_of i ListOf.All = list_runs i None
runs_of i (ListOf.Term n) = list_runs i (Some n)

-- The entries that are left to a leaf.
abbrev pub entries_of : Indexed → Leaf → Postings
entries_of i l = left l.cursor (runs_of i l.source)

-- The first id of entries, and 2 ^ 32 where there is none.
abbrev pub head_of : Postings → ℕ
head_of [] = 2 ^ 32
head_of (p ∷ ps) = p.0

-- What entries weigh at an id.
abbrev pub weighed : ℕ → Scheme → Postings → ℕ → Option ℕ
weighed factor scheme entries id = option_map (weigh_by factor scheme) (found id entries)

-- The weight that a leaf still gives at an id.
abbrev pub leaf_rest : Indexed → Leaf → ℕ → Option ℕ
leaf_rest i l id = weighed l.factor l.scheme (entries_of i l) id

-- How many entries a leaf has not read and not passed over.
abbrev pub leaf_unread : Indexed → Leaf → ℕ
leaf_unread i l = length (unread l.cursor (runs_of i l.source))

-- What the entries of a list can weigh: the greatest wdf, and nothing where there is no entry.
abbrev pub leaf_greatest : ℕ → Scheme → Postings → ℕ
leaf_greatest factor scheme list = if nat_lt 0 (length list) then weigh_by factor scheme (greatest_wdf list) else 0

-- Each wdf below this one weighs less than the need.
abbrev pub WeighBelow : ℕ → Scheme → ℕ → ℕ → Type 0
WeighBelow factor scheme need_wdf need = (w : ℕ) → w < need_wdf → weigh_by factor scheme w < need

-- No weight is above this one.
abbrev pub AtMost : ℕ → (ℕ → Option ℕ) → Type 0
AtMost greatest f = (id : ℕ) → unwrap_or (f id) 0 ≤ greatest

-- A leaf was opened over a list, and sought under no need.
pub record IsFresh (list : ListOf) (by : Scheme) (times : ℕ) (l : Leaf) : Type 0 where
  pub source : l.source ≡ list
  pub scheme : l.scheme ≡ by
  pub factor : l.factor ≡ times
  pub need_wdf : l.need_wdf ≡ 0
  pub need : l.need ≡ 0

-- A leaf stands on its list.
pub record IsLeafOn (i : Indexed) (l : Leaf) : Type 0 where
  pub there : IsThere l.source i.terms
  pub factor : l.factor ≤ 65536
  pub on : IsOn l.cursor (runs_of i l.source)
  pub runs : AreRuns (runs_of i l.source)
  pub light : WeighBelow l.factor l.scheme l.need_wdf l.need
  pub bound : AtMost l.greatest (leaf_rest i l)
  pub live : (id : ℕ) → document_at id i.live.documents ≡ None → leaf_rest i l id ≡ None
