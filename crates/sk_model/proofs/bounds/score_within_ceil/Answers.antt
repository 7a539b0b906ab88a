use Rattle.sk_model.proofs.CeilLaws.{score_within}
use Rattle.sk_model.proofs.bounds.score_within_ceil.Goals as goal

pub returns : goal.returns
returns c = score_within
