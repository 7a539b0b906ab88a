-- The list of a term gives its wdfs.
use Rattle.std.proofs.Common.{arith}
use Rattle.sk_dict.specs.Terms.{term_at}
use Rattle.sk_index.proofs.NumberLemmas.{length-postings}
use Rattle.sk_tree.proofs.MergeOpenLaws.{list_sums}
use Rattle.sk_tree.proofs.synonym.open_list.Goals as goal

pub returns-clause-opens : goal.returns-clause-opens
returns-clause-opens g c =
    list_sums c.args.index.now c.in_ok-top.leaf c.in_ok-top.top c.args.number _ _ c.requires.can.light c.requires.can.read.documents c.in_ok-top.ensures.yields c.in_ok-top.ensures.list

pub returns-clause-pays : goal.returns-clause-pays
returns-clause-pays g c =
    let i = c.args.index.now in
    let pays = c.in_ok-top.ensures.pays in
    let long = length-postings (term_at i.terms c.args.number) i.live.documents in
    record { paid = omega (arith, pays.paid); within = omega (arith, pays.within, long); room = pays.room }
