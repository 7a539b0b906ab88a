-- What is counted of the values of matches are the facets of a query.
use Rattle.std.proofs.Common.{◌≡◌, ◌+◌, ℕ, List, length, take, sum_by, sym, ap, ◌∙◌, subst, arith}
use Rattle.sk_base.specs.declared.facets.Facet.{Facet}
use Rattle.sk_base.specs.declared.facets.Facets.{Facets}
use Rattle.sk_base.specs.Numbers.{Docs}
use Rattle.sk_query.specs.Trees.{Tree}
use Rattle.sk_model.specs.Allowance.{leaf_readings}
use Rattle.sk_model.specs.Facets.{values_found, number_without, AreCounted}
use Rattle.sk_model.proofs.FacetLaws.{sum_of_counts}
use Rattle.sk_report.specs.Facets.{FacetsFor}
use Rattle.sk_report.proofs.FacetLaws.{one_value_each}

pub told : (query : Tree) (slot size : ℕ) (docs : Docs) (values : List (List ℕ)) (all : List Facet) (facets : Facets) → values ≡ values_found query slot docs → AreCounted values all
    → facets.values ≡ take size all → facets.distinct ≡ length all → facets.without ≡ number_without values → facets.matches ≡ length values → facets.steps ≡ leaf_readings query docs + length values
    → FacetsFor query slot size docs facets
told query slot size docs values all facets found counted first distinct without matches steps =
    let of_found : AreCounted (values_found query slot docs) all = subst (λ vs. AreCounted vs all) found counted in
    let without_found : facets.without ≡ number_without (values_found query slot docs) = without ∙ ap number_without found in
    let matches_found : facets.matches ≡ length (values_found query slot docs) = matches ∙ ap length found in
    record {
      all = all;
      counted = of_found;
      values = first;
      distinct = distinct;
      without = without_found;
      matches = matches_found;
      sum = (λ i. sum_by (λ (f : Facet). f.count) all + without_found i) ∙ sum_of_counts (values_found query slot docs) all of_found ∙ sym matches_found;
      least_steps = omega (arith, matches, steps);
      most_steps = omega (arith, steps, ap length found, one_value_each query slot docs);
    }
