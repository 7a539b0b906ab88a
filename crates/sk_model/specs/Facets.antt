-- How often each value of a slot stands among the matches of a query.
-- Source: Xapian's API documentation (`ValueCountMatchSpy`, where every match is looked at). The order of equal counts is own.
use Rattle.std.specs.Prelude.{◌≡◌, ◌<◌, ◌⊎◌, ℕ, ◌+◌, ◌==◌, true, List, length, map, filter, count_by, bytes_eq, is_some, All, AllPairs}
use Rattle.std.specs.List.{list_any}
use Rattle.sk_base.specs.declared.facets.Facet.{Facet}
use Rattle.sk_base.specs.declared.find.Scheme.{Scheme}
use Rattle.sk_base.specs.Documents.{value_in}
use Rattle.sk_base.specs.Numbers.{Docs}
use Rattle.sk_base.specs.Order.{Precedes}
use Rattle.sk_query.specs.Trees.{Tree}
use Rattle.sk_model.specs.Allowance.{leaf_readings}
use Rattle.sk_model.specs.Scores.{score}

-- The live documents that a query matches, each scored by itself, by rising id. No weight is asked for, and there is no cutoff.
abbrev pub matching : Tree → Docs → Docs
matching query docs = filter (λ one. is_some (score query Scheme.Bool 1 one.1)) docs

-- The value in the slot of each of them, and the empty one where it has none.
abbrev pub values_found : Tree → ℕ → Docs → List (List ℕ)
values_found query slot docs = map (λ one. value_in slot one.1.values) (matching query docs)

-- How many of these values are this one.
abbrev pub times : List ℕ → List (List ℕ) → ℕ
times v values = count_by (bytes_eq v) values

-- How many of them are empty.
abbrev pub number_without : List (List ℕ) → ℕ
number_without values = count_by (λ v. length v == 0) values

-- One value stands before another: more have it, or as many, and it is the lesser by its bytes.
abbrev pub StandsBefore : Facet → Facet → Type 0
StandsBefore f g = (g.count < f.count) ⊎ ((f.count ≡ g.count) × Precedes f.value g.value)

-- Each of these values that is not empty, once, with how many of them it is; in order. There is one such list (law `one_list_of_facets`).
pub record AreCounted (values : List (List ℕ)) (facets : List Facet) : Type 0 where
  pub counts : All (λ f. (0 < length f.value) × (0 < f.count) × (f.count ≡ times f.value values)) facets
  pub whole : (v : List ℕ) → 0 < length v → 0 < times v values → list_any (λ f. bytes_eq f.value v) facets ≡ true
  pub order : AllPairs StandsBefore facets

-- The most readings that counting may take: each list of the query once, those of near and phrase twice, and the value of each match.
abbrev pub facet_allowance : Tree → Docs → ℕ
facet_allowance query docs = leaf_readings query docs + length (matching query docs)
