-- The sharper bounds on the steps of a find.
-- Source: Own.
use Rattle.std.specs.Prelude.{ℕ, ◌+◌, ◌*◌, ◌&&◌, min, nat_le, nat_lt, Bool, true, false, List, [], ◌∷◌, length, count_by, is_none, Option, Some, None, if◌then◌else◌}
use Rattle.std.specs.Option.{option_map}
use Rattle.sk_base.specs.declared.find.Paging.{Paging}
use Rattle.sk_base.specs.declared.rank.OrderBy.{OrderBy}
use Rattle.sk_base.specs.Documents.{has_term}
use Rattle.sk_base.specs.Numbers.{Docs, length_of, terms_with}
use Rattle.sk_query.specs.declared.form.Form.{Form}
use Rattle.sk_query.specs.Trees.{Tree, term, wildcard, parts, synonym, Trees, no_trees, tree}
use Rattle.sk_model.specs.Allowance.{allowance, extra}
use Rattle.sk_model.specs.Bounds.{least_length}
use Rattle.sk_model.specs.Matches.{found_by}
use Rattle.sk_model.specs.Settled.{stop_point, decay_point}

-- The postings of a term up to an id.
abbrev pub up : List ℕ → ℕ → Docs → ℕ
up t id docs = count_by (λ one. has_term t one.1.terms && nat_le one.0 id) docs

-- The postings of a term behind an id.
abbrev pub past : List ℕ → ℕ → Docs → ℕ
past t id docs = count_by (λ one. has_term t one.1.terms && nat_lt id one.0) docs

-- The terms, where all parts are terms.
abbrev pub terms_in : Trees → Option (List (List ℕ))
terms_in no_trees = Some []
terms_in (tree (term t) ts) = option_map (λ more. t ∷ more) (terms_in ts)
terms_in (tree _ ts) = None

-- The lists of a flat query: a term, a synonym, a wildcard, or an or or a max of terms alone.
abbrev pub flat_lists : Tree → Docs → Option (List (List ℕ))
flat_lists (term t) docs = Some (t ∷ [])
flat_lists (synonym ts) docs = Some ts
flat_lists (wildcard prefix) docs = Some (terms_with prefix docs)
flat_lists (parts Form.Or ts) docs = terms_in ts
flat_lists (parts Form.Max ts) docs = terms_in ts
flat_lists _ docs = None

-- Of each list its postings up to an id and one more.
abbrev pub ups : List (List ℕ) → ℕ → Docs → ℕ
ups [] id docs = 0
ups (t ∷ ts) id docs = (up t id docs + 1) + ups ts id docs

-- The heavier first, and nothing collapsed.
abbrev pub is_plain : Paging → Bool
is_plain paging = is_relevance paging.order.by && is_none paging.collapse
  where
    is_relevance : OrderBy → Bool
    is_relevance OrderBy.Relevance = true
    is_relevance (OrderBy.Value key) = false
    is_relevance (OrderBy.ValueThenRelevance key) = false
    is_relevance (OrderBy.RelevanceThenValue key) = false

-- The stop number: each list up to the stop point and one more, and the hits. It applies to flat queries, by relevance and without collapsing.
abbrev pub stop_number : Tree → Paging → Docs → ℕ → Option ℕ
stop_number query paging docs hits =
    if is_plain paging then option_map (λ lists. ups lists (stop_point query paging docs) docs + hits) (flat_lists query docs) else None

-- The terms, and the length of the first one's list.
abbrev pub led_by_first : Option (List (List ℕ)) → Docs → Option (List (List ℕ) × ℕ)
led_by_first None docs = None
led_by_first (Some []) docs = None
led_by_first (Some (t ∷ ts)) docs = Some (t ∷ ts, length_of t docs)

-- The terms, where there are two.
abbrev pub of_two : Option (List (List ℕ)) → Option (List (List ℕ))
of_two (Some (a ∷ b ∷ [])) = Some (a ∷ b ∷ [])
of_two _ = None

-- The terms of a query with a rare side, and the length that leads: the shortest list of an and of terms, the first list of an and_not or a filter of terms or of an and_maybe of two.
abbrev pub rare_lists : Tree → Docs → Option (List (List ℕ) × ℕ)
rare_lists (parts Form.And ts) docs = option_map (λ lists. (lists, least_length lists docs)) (terms_in ts)
rare_lists (parts Form.AndNot ts) docs = led_by_first (terms_in ts) docs
rare_lists (parts Form.Filter ts) docs = led_by_first (terms_in ts) docs
rare_lists (parts Form.AndMaybe ts) docs = led_by_first (of_two (terms_in ts)) docs
rare_lists _ docs = None

-- Of each list its length, or 128 readings for each posting of the leading one and 128 more, where that is less.
abbrev pub rare_readings : List (List ℕ) → ℕ → Docs → ℕ
rare_readings [] m docs = 0
rare_readings (t ∷ ts) m docs = min (length_of t docs) (128 * (m + 1)) + rare_readings ts m docs

-- The rare number.
abbrev pub rare_number : Tree → Paging → Docs → ℕ → ℕ → Option ℕ
rare_number query paging docs matching hits = option_map (λ p. rare_readings p.0 p.1 docs + extra paging matching hits) (rare_lists query docs)

-- The decay number of an or of two terms, the first of which is read out: the second is read up to the point at which it cannot matter alone, and behind that sought at most twice for each posting of the first.
abbrev pub decay_readings : List ℕ → List ℕ → ℕ → Docs → ℕ → ℕ
decay_readings a b point docs hits = length_of a docs + up b point docs + 256 * (1 + past a point docs) + hits

-- The lesser of the two.
abbrev pub decay_of : Tree → Paging → Docs → ℕ → Option (List (List ℕ)) → Option ℕ
decay_of query paging docs hits (Some (a ∷ b ∷ [])) =
    Some (min (decay_readings a b (decay_point query (term b) paging docs) docs hits) (decay_readings b a (decay_point query (term a) paging docs) docs hits))
decay_of query paging docs hits _ = None

-- The decay number: of an or of exactly two terms, by relevance and without collapsing.
abbrev pub decay_number : Tree → Paging → Docs → ℕ → Option ℕ
decay_number (parts Form.Or ts) paging docs hits = if is_plain paging then decay_of (parts Form.Or ts) paging docs hits (of_two (terms_in ts)) else None
decay_number _ paging docs hits = None

-- The lesser of a number and one that may apply.
abbrev pub at_most : ℕ → Option ℕ → ℕ
at_most n None = n
at_most n (Some m) = min n m

-- The least of the allowance and of the numbers that apply.
abbrev pub sharp : Tree → Paging → Docs → ℕ → ℕ
sharp query paging docs hits =
    at_most (at_most (at_most (allowance query paging docs (length (found_by query paging docs)) hits) (stop_number query paging docs hits))
    (rare_number query paging docs (length (found_by query paging docs)) hits)) (decay_number query paging docs hits)
