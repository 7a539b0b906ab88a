use Rattle.sk_dict.proofs.BlockLemmas.{block_put}
use Rattle.sk_dict.proofs.order.put_at.Goals as goal

pub returns-clause-ok : goal.returns-clause-ok
returns-clause-ok c =
    block_put c.args.blocks.now.items c.args.place.block c.args.place.offset c.args.number _ _ c.requires.there c.index_mut.ensures.value c.in_ok-insert.ensures.ok
