use Rattle.sk_model.proofs.CombiningLaws.{not_others}
use Rattle.sk_model.proofs.combining.first_and_others.Goals as goal

pub returns-clause-not : goal.returns-clause-not
returns-clause-not c = not_others
