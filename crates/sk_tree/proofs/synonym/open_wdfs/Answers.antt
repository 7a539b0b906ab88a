-- The list of one of many terms is that of the term, with its mark beside it.
use Rattle.std.proofs.Common.{arith}
use Rattle.sk_nodes.specs.Shapes.{leaf}
use Rattle.sk_nodes.proofs.NodeLaws.{weight_le}
use Rattle.sk_tree.proofs.MergeOpenLaws.{wdfs_sums, wdfs_unread, mark_small}
use Rattle.sk_tree.proofs.synonym.open_wdfs.Goals as goal

pub mark_of-requires-clause-light : goal.mark_of-requires-clause-light
mark_of-requires-clause-light g c = weight_le c.args.index.now c.in_ok-top.top (leaf c.in_ok-top.leaf) c.in_ok-top.ensures.opens.sound.top

pub mark_of-requires-clause-small : goal.mark_of-requires-clause-small
mark_of-requires-clause-small g c = mark_small c.args.index.now c.in_ok-top.top c.in_ok-top.leaf _ _ _ c.in_ok-top.ensures.opens

pub returns-clause-opens : goal.returns-clause-opens
returns-clause-opens g c =
    wdfs_sums c.args.index.now c.in_ok-top.top c.in_ok-top.leaf c.mark_of.result c.of.result c.args.number c.mark_of.ensures c.of.ensures c.in_ok-top.ensures.fresh _ _ _ c.in_ok-top.ensures.opens

pub returns-clause-pays : goal.returns-clause-pays
returns-clause-pays g c =
    let pays = c.in_ok-top.ensures.pays in
    let unread = wdfs_unread c.args.index.now c.in_ok-top.top c.in_ok-top.leaf c.mark_of.result c.of.result c.args.number c.mark_of.ensures c.of.ensures c.in_ok-top.ensures.fresh in
    record { paid = omega (arith, pays.paid, unread); within = pays.within; room = pays.room }
