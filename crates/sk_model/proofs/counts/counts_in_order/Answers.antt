use Rattle.std.proofs.Common.{arith}
use Rattle.sk_model.proofs.counts.counts_in_order.Goals as goal

pub returns : goal.returns
returns c paging docs ranks greatest static lower upper so = omega (arith, so.at_least, so.at_most)
