use Rattle.std.proofs.Common.{◌∙◌, Some, sym, ap, arith}
use Rattle.sk_query.specs.Trees.{query_view}
use Rattle.sk_sharp.proofs.SharpLemmas.{two_there, decay_is}
use Rattle.sk_sharp.proofs.sharp.decay_of.Goals as goal

pub returns : goal.returns
returns c =
    decay_is (query_view c.args.query.now) c.args.paging.now c.args.docs.now.entries c.args.hits c.args.lists c.a-item.result c.b-item.result
    c.decay_point-behind_a.result c.decay_point-behind_b.result c.decay_readings-first.result c.decay_readings-second.result c.min.result
    (c.in_ok-lists.was ∙ ap Some (sym c.as_slice.ensures ∙ two_there c.as_slice.result.now c.a-item.result c.b-item.result (omega arith) (omega arith) c.a-item.is c.b-item.is))
    c.decay_point-behind_b.ensures c.decay_point-behind_a.ensures c.decay_readings-first.ensures c.decay_readings-second.ensures c.min.ensures
