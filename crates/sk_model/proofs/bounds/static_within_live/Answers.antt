use Rattle.sk_model.proofs.StaticLaws.{static_live}
use Rattle.sk_model.proofs.bounds.static_within_live.Goals as goal

pub returns : goal.returns
returns c query docs = static_live docs query
