use Rattle.sk_model.proofs.CoverLaws.{sides_cover}
use Rattle.sk_model.proofs.covers.sides_cover.Goals as goal

pub returns : goal.returns
returns c = sides_cover
