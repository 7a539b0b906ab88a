use Rattle.sk_report.proofs.FacetLaws.{facets_there, alike}
use Rattle.sk_report.proofs.facets.facets_are_there.Goals as goal

pub returns-clause-there : goal.returns-clause-there
returns-clause-there c = facets_there

pub returns-clause-alike : goal.returns-clause-alike
returns-clause-alike c = alike
