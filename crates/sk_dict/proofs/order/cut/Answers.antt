use Rattle.sk_dict.proofs.BlockLemmas.{block_cut}
use Rattle.sk_dict.proofs.order.cut.Goals as goal

pub returns-clause-ok : goal.returns-clause-ok
returns-clause-ok c =
    block_cut c.args.blocks.now.items c.insert.new.self.items c.args.block c.args.half c.index.result.now c.index_mut.result.now _ _
    c.requires.there c.index.ensures c.in_ok-insert.ensures.items c.index_mut.ensures.value c.in_ok-upper.ensures c.truncate.ensures
