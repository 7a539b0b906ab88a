-- One node of all lists, whose sums are no more together than those of a document can be.
use Rattle.std.proofs.Common.{◌∙◌, min, ap, arith}
use Rattle.sk_nodes.specs.Shapes.{leaf, side, shape_of, merged}
use Rattle.sk_nodes.specs.Left.{unread_of}
use Rattle.sk_tree.proofs.MergeOpenLaws.{there_at, sums_all, pays_all, counts_both, merge_opened, merge_nest}
use Rattle.sk_tree.proofs.synonym.open_many.Goals as goal

pub longest-which-requires-clause-there : goal.longest-which-requires-clause-there
longest-which-requires-clause-there g c = c.requires.there

pub open_list-requires-clause-can : goal.open_list-requires-clause-can
open_list-requires-clause-can g c = c.requires.can

pub open_others-requires-clause-there : goal.open_others-requires-clause-there
open_others-requires-clause-there g c = c.requires.there

pub open_list-requires-clause-there : goal.open_list-requires-clause-there
open_list-requires-clause-there g c = there_at c.args.index.now c.args.numbers.now c.longest-which.result 0 c.longest-which.ensures.within c.requires.there

pub open_others-requires-clause-can : goal.open_others-requires-clause-can
open_others-requires-clause-can g c =
    let can = c.requires.can in
    record { read = record { documents = can.read.documents; room = c.in_ok-longest_top.ensures.pays.room; small = c.open_list.ensures.counts.small }; bounded = can.bounded; light = can.light }

pub merge_of-requires-clause-sound : goal.merge_of-requires-clause-sound
merge_of-requires-clause-sound g c =
    let one = c.in_ok-longest_top in
    let others = c.in_ok-marks in
    (sums_all c.args.index.now one.longest_top one.leaf (merged others.marks.items others.leaves.items) c.args.numbers.now c.longest-which.result 0 c.longest-which.ensures.within _ _ _ one.ensures.opens others.ensures.opens).sound

pub merge_of-requires-clause-few : goal.merge_of-requires-clause-few
merge_of-requires-clause-few g c = omega (arith, c.in_ok-marks.ensures.few, c.if-numbers-gt-MOST_LISTS.false)

pub merge_of-requires-clause-fits : goal.merge_of-requires-clause-fits
merge_of-requires-clause-fits g c = omega (arith, c.in_ok-longest_top.ensures.opens.ceiling, c.in_ok-marks.ensures.fits)

pub returns-clause-opens : goal.returns-clause-opens
returns-clause-opens g c =
    let i = c.args.index.now in
    let one = c.in_ok-longest_top in
    let others = c.in_ok-marks in
    let ss = merged others.marks.items others.leaves.items in
    merge_opened i c.in_ok-top.top c.capped.result (shape_of c.in_ok-top.node) (side one.longest_top (leaf one.leaf) ss) c.args.numbers.now _ _ c.in_ok-top.ensures.shape
    c.capped.ensures.head c.capped.ensures.weight (c.capped.ensures.greatest ∙ ap (λ n. min c.in_ok-top.top.greatest n) c.from.ensures) c.requires.apart c.requires.can.light
    (omega (arith, one.ensures.opens.ceiling, others.ensures.fits)) c.in_ok-top.ensures.top
    (sums_all i one.longest_top one.leaf ss c.args.numbers.now c.longest-which.result 0 c.longest-which.ensures.within _ _ _ one.ensures.opens others.ensures.opens)

pub returns-clause-pays : goal.returns-clause-pays
returns-clause-pays g c =
    let i = c.args.index.now in
    let one = c.in_ok-longest_top in
    let others = c.in_ok-marks in
    let pays = pays_all i one.longest_top one.leaf (merged others.marks.items others.leaves.items) c.args.numbers.now c.longest-which.result 0 c.longest-which.ensures.within _ _ _ _ _ _ one.ensures.pays others.ensures.pays in
    record { paid = omega (arith, pays.paid, ap (unread_of i) c.in_ok-top.ensures.shape); within = pays.within; room = pays.room }

pub returns-clause-nest : goal.returns-clause-nest
returns-clause-nest g c =
    let i = c.args.index.now in
    let one = c.in_ok-longest_top in
    let others = c.in_ok-marks in
    let ss = merged others.marks.items others.leaves.items in
    merge_nest i (shape_of c.in_ok-top.node) (side one.longest_top (leaf one.leaf) ss) _ _ _ c.in_ok-top.ensures.shape
    (sums_all i one.longest_top one.leaf ss c.args.numbers.now c.longest-which.result 0 c.longest-which.ensures.within _ _ _ one.ensures.opens others.ensures.opens)

pub returns-clause-counts : goal.returns-clause-counts
returns-clause-counts g c = counts_both _ _ _ _ _ _ _ _ c.open_list.ensures.counts c.open_others.ensures.counts

pub returns-in_err-longest_top-clause-counts : goal.returns-in_err-longest_top-clause-counts
returns-in_err-longest_top-clause-counts g c = c.open_list.ensures.counts

pub returns-in_err-marks-clause-counts : goal.returns-in_err-marks-clause-counts
returns-in_err-marks-clause-counts g c = counts_both _ _ _ _ _ _ _ _ c.open_list.ensures.counts c.open_others.ensures.counts

pub returns-in_err-top-clause-counts : goal.returns-in_err-top-clause-counts
returns-in_err-top-clause-counts g c = counts_both _ _ _ _ _ _ _ _ c.open_list.ensures.counts c.open_others.ensures.counts
