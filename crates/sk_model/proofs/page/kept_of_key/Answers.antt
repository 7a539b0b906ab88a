use Rattle.sk_model.proofs.KeptLaws.{kept_of_key}
use Rattle.sk_model.proofs.page.kept_of_key.Goals as goal

pub returns : goal.returns
returns c = kept_of_key
