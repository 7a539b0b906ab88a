use Rattle.sk_model.proofs.StaticLaws.{matches_within}
use Rattle.sk_model.proofs.bounds.matches_within_static.Goals as goal

pub returns : goal.returns
returns c = matches_within
