-- When facets are those of a query.
-- Source: Xapian's API documentation (`ValueCountMatchSpy`). The first values alone, and the steps, are own.
use Rattle.std.specs.Prelude.{◌≡◌, ◌≤◌, ℕ, ◌+◌, List, length, take, sum_by}
use Rattle.sk_base.specs.declared.facets.Facet.{Facet}
use Rattle.sk_base.specs.declared.facets.Facets.{Facets}
use Rattle.sk_base.specs.Numbers.{Docs}
use Rattle.sk_query.specs.Trees.{Tree}
use Rattle.sk_model.specs.Facets.{values_found, number_without, AreCounted, facet_allowance}

-- Of the values in the slot of all live documents that the query matches: the first are told, as many as are asked for, and of all how many there are. Each match is counted under its value, or as one that has none. Each value is one reading at least, and all steps are within what is allowed.
pub record FacetsFor (query : Tree) (slot size : ℕ) (docs : Docs) (facets : Facets) : Type 0 where
  pub all : List Facet
  pub counted : AreCounted (values_found query slot docs) all
  pub values : facets.values ≡ take size all
  pub distinct : facets.distinct ≡ length all
  pub without : facets.without ≡ number_without (values_found query slot docs)
  pub matches : facets.matches ≡ length (values_found query slot docs)
  pub sum : sum_by (λ f. f.count) all + facets.without ≡ facets.matches
  pub least_steps : facets.matches ≤ facets.steps
  pub most_steps : facets.steps ≤ facet_allowance query docs
