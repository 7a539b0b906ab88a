use Rattle.sk_model.proofs.DocumentLaws.{slots_are_kept}
use Rattle.sk_model.proofs.documents.slots_of_schema.Goals as goal

pub returns : goal.returns
returns c = slots_are_kept
