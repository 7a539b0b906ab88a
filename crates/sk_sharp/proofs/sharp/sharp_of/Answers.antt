use Rattle.std.proofs.Common.{◌∙◌, ap, length}
use Rattle.sk_query.specs.Trees.{query_view}
use Rattle.sk_sharp.proofs.SharpLemmas.{sharp_is}
use Rattle.sk_sharp.proofs.sharp.sharp_of.Goals as goal

pub returns : goal.returns
returns c =
    sharp_is (query_view c.args.query.now) c.args.paging.now c.args.docs.now.entries c.args.hits (length c.as_slice-ranks.result.now)
    c.in_ok-all.all c.at_most.result c.at_most-2.result c.at_most-3.result c.in_ok-stop.stop c.in_ok-rare.rare c.in_ok-decay.decay
    (ap length (c.as_slice-ranks.ensures.value ∙ c.in_ok-ranks.ensures.all))
    c.in_ok-all.ensures c.in_ok-stop.ensures c.in_ok-rare.ensures c.in_ok-decay.ensures
    c.at_most.ensures c.at_most-2.ensures c.at_most-3.ensures
