use Rattle.sk_model.proofs.KeptLaws.{kept_each, kept_alike}
use Rattle.sk_model.proofs.page.kept_by_keys.Goals as goal

pub returns-clause-each : goal.returns-clause-each
returns-clause-each c = kept_each

pub returns-clause-alike : goal.returns-clause-alike
returns-clause-alike c = kept_alike
