use Rattle.sk_model.proofs.OrderLaws.{sorted_is}
use Rattle.sk_model.proofs.order.one_order.Goals as goal

pub returns : goal.returns
returns c = sorted_is
