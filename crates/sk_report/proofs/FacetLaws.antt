-- There are facets of a query, and of one query they are alike.
use Rattle.std.proofs.Common.{◌≡◌, ℕ, length, take, refl, sym, ap, ◌∙◌, arith}
use Rattle.std.proofs.lemmas.List.{length-map}
use Rattle.sk_base.specs.declared.facets.Facets.{Facets}
use Rattle.sk_base.specs.Documents.{value_in}
use Rattle.sk_base.specs.Numbers.{Docs}
use Rattle.sk_query.specs.Trees.{Tree}
use Rattle.sk_model.specs.Counting.{counted}
use Rattle.sk_model.specs.Facets.{matching, values_found, number_without, facet_allowance}
use Rattle.sk_report.specs.Facets.{FacetsFor}
use Rattle.sk_model.proofs.FacetLaws.{one_list, sum_of_counts}
use Rattle.sk_model.proofs.TallyLaws.{counted_is}

-- there is a value for each match
pub one_value_each : (query : Tree) (slot : ℕ) (docs : Docs) → length (values_found query slot docs) ≡ length (matching query docs)
one_value_each query slot docs = length-map (matching query docs) (λ one. value_in slot one.1.values)

module _ (query : Tree) (slot size : ℕ) (docs : Docs) where
  -- all that is counted, and the most steps
  abbrev exact : Facets
  exact = record {
    values = take size (counted (values_found query slot docs));
    distinct = length (counted (values_found query slot docs));
    without = number_without (values_found query slot docs);
    matches = length (values_found query slot docs);
    steps = facet_allowance query docs;
  }

  pub exact_is : FacetsFor query slot size docs exact
  exact_is = record {
    all = counted (values_found query slot docs);
    counted = counted_is (values_found query slot docs);
    values = refl;
    distinct = refl;
    without = refl;
    matches = refl;
    sum = sum_of_counts (values_found query slot docs) (counted (values_found query slot docs)) (counted_is (values_found query slot docs));
    least_steps = omega (arith, one_value_each query slot docs);
    most_steps = omega arith;
  }

  pub alike : (f g : Facets) → FacetsFor query slot size docs f → FacetsFor query slot size docs g → (f.values ≡ g.values) × (f.distinct ≡ g.distinct) × (f.without ≡ g.without) × (f.matches ≡ g.matches)
  alike f g hf hg =
      let same = one_list (values_found query slot docs) hf.all hg.all hf.counted hg.counted in
      (hf.values ∙ ap (take size) same ∙ sym hg.values, hf.distinct ∙ ap length same ∙ sym hg.distinct, hf.without ∙ sym hg.without, hf.matches ∙ sym hg.matches)

pub facets_there : (query : Tree) (slot size : ℕ) (docs : Docs) → (facets : Facets) × FacetsFor query slot size docs facets
facets_there query slot size docs = (exact query slot size docs, exact_is query slot size docs)
