-- What one document scores for a query.
-- Source: Xapian's API documentation (the operators of `Query`). Own: whole factors, the plain sum of a synonym and of a wildcard, which expands no list of terms.
use Rattle.std.specs.Prelude.{ℕ, ◌+◌, ◌*◌, Bool, List, [], ◌∷◌, map, Option, Some, None, if◌then◌else◌}
use Rattle.std.specs.List.{list_any}
use Rattle.sk_base.specs.declared.find.Scheme.{Scheme}
use Rattle.sk_base.specs.declared.doc_entry.DocTerm.{DocTerm}
use Rattle.sk_base.specs.Documents.{has_term, wdf_of, positions_of, value_in, begins_with}
use Rattle.sk_query.specs.Trees.{Tree, nothing, all, term, wildcard, parts, near, phrase, synonym, scale, range, Trees, no_trees, tree}
use Rattle.sk_model.specs.Documents.{Document}
use Rattle.sk_model.specs.Combining.{combined}
use Rattle.sk_model.specs.Weights.{weigh_by}
use Rattle.sk_model.specs.Positions.{is_near, is_phrase}
use Rattle.sk_model.specs.Ranges.{end_of, is_within}

-- A weight where the test holds, and none where it does not.
abbrev pub weight_if : Bool → ℕ → Option ℕ
weight_if test weight = if test then Some weight else None

-- A term weighs its wdf where the document has it.
abbrev pub term_score : Scheme → ℕ → List ℕ → List DocTerm → Option ℕ
term_score scheme factor t terms = weight_if (has_term t terms) (weigh_by factor scheme (wdf_of t terms))

-- The wdfs of these terms in a document, added.
abbrev pub wdf_sum : List (List ℕ) → List DocTerm → ℕ
wdf_sum [] terms = 0
wdf_sum (t ∷ ts) terms = wdf_of t terms + wdf_sum ts terms

-- The weights of these terms, added.
abbrev pub terms_weight : Scheme → ℕ → List (List ℕ) → List DocTerm → ℕ
terms_weight scheme factor [] terms = 0
terms_weight scheme factor (t ∷ ts) terms = weigh_by factor scheme (wdf_of t terms) + terms_weight scheme factor ts terms

-- The wdfs of a document's own terms that begin so, added.
abbrev pub wild_wdf : List ℕ → List DocTerm → ℕ
wild_wdf prefix [] = 0
wild_wdf prefix (one ∷ more) = (if begins_with one.term prefix then one.wdf else 0) + wild_wdf prefix more

-- The positions of these terms in a document.
abbrev pub places_of : List (List ℕ) → List DocTerm → List (List ℕ)
places_of ts terms = map (λ t. positions_of t terms) ts

abbrev mutual
  -- The weight of a document under a query, times the factor, and none where the query does not match it.
  pub score : Tree → Scheme → ℕ → Document → Option ℕ
  -- No document.
  score nothing scheme factor d = None
  -- Each document, without weight.
  score all scheme factor d = Some 0
  score (term t) scheme factor d = term_score scheme factor t d.terms
  -- All the document's own terms that begin so, as one.
  score (wildcard prefix) scheme factor d = weight_if (list_any (λ one. begins_with one.term prefix) d.terms) (weigh_by factor scheme (wild_wdf prefix d.terms))
  -- The scores of the parts, put together as the form says.
  score (parts form ts) scheme factor d = combined form (scores ts scheme factor d)
  -- The words stand near: the sum over them as terms.
  score (near window ts) scheme factor d = weight_if (is_near window (places_of ts d.terms)) (terms_weight scheme factor ts d.terms)
  -- The words stand as a phrase: the sum over them as terms.
  score (phrase window ts) scheme factor d = weight_if (is_phrase window (places_of ts d.terms)) (terms_weight scheme factor ts d.terms)
  -- One of the terms is there: their wdfs as one.
  score (synonym ts) scheme factor d = weight_if (list_any (λ t. has_term t d.terms) ts) (weigh_by factor scheme (wdf_sum ts d.terms))
  -- A factor on all weights below.
  score (scale f t) scheme factor d = score t scheme (factor * f) d
  -- The value in the slot lies in the range: no weight.
  score (range slot lo hi) scheme factor d = weight_if (is_within (end_of lo) (end_of hi) (value_in slot d.values)) 0

  -- The scores of the parts, in order.
  pub scores : Trees → Scheme → ℕ → Document → List (Option ℕ)
  scores no_trees scheme factor d = []
  scores (tree t ts) scheme factor d = score t scheme factor d ∷ scores ts scheme factor d
