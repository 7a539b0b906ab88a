use Rattle.sk_model.proofs.OrderLaws.{never_worse}
use Rattle.sk_model.proofs.order.place_never_worse.Goals as goal

pub returns : goal.returns
returns c = never_worse
