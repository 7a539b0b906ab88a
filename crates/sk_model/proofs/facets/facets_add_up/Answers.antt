use Rattle.sk_model.proofs.FacetLaws.{sum_of_counts, few_facets}
use Rattle.sk_model.proofs.facets.facets_add_up.Goals as goal

pub returns-clause-sum : goal.returns-clause-sum
returns-clause-sum c = sum_of_counts

pub returns-clause-few : goal.returns-clause-few
returns-clause-few c = few_facets
