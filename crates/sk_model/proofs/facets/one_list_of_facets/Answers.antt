use Rattle.sk_model.proofs.FacetLaws.{one_list}
use Rattle.sk_model.proofs.TallyLaws.{counted_is}
use Rattle.sk_model.proofs.facets.one_list_of_facets.Goals as goal

pub returns-clause-there : goal.returns-clause-there
returns-clause-there c = counted_is

pub returns-clause-one : goal.returns-clause-one
returns-clause-one c = one_list
