-- One term alone, or the sums of wdfs of more, weighed.
use Rattle.std.proofs.Common.{ap, arith}
use Rattle.std.proofs.lemmas.Result.{IfOk-weaker}
use Rattle.sk_nodes.specs.Shapes.{shape_of}
use Rattle.sk_nodes.specs.Left.{unread_of}
use Rattle.sk_nodes.proofs.NodeLaws.{weight_le}
use Rattle.sk_tree.proofs.SynonymLaws.{sums_weighed}
use Rattle.sk_tree.proofs.NestLaws.{one_as_one, sums_as_one}
use Rattle.sk_tree.proofs.synonym.open_joint.Goals as goal

pub open_sums-requires-clause-can : goal.open_sums-requires-clause-can
open_sums-requires-clause-can g c = record { read = c.requires.can.read; bounded = omega arith; light = c.requires.can.light }

pub synonym_over-requires-clause-within : goal.synonym_over-requires-clause-within
synonym_over-requires-clause-within g c = weight_le c.args.index.now c.in_ok-below.below (shape_of c.in_ok-below.node) c.in_ok-below.ensures.opens.top

pub returns-clause-opens : goal.returns-clause-opens
returns-clause-opens g c =
    let i = c.args.index.now in
    let opens = c.in_ok-below.ensures.opens in
    sums_weighed i c.in_ok-below.below c.in_ok-top.top (shape_of c.in_ok-below.node) (shape_of c.in_ok-top.node) c.args.numbers.now c.args.scheme c.args.factor c.requires.can.bounded opens c.in_ok-top.ensures.shape
    (c.in_ok-top.ensures.top i (shape_of c.in_ok-below.node) opens.top) c.in_ok-top.ensures.bound

pub returns-clause-pays : goal.returns-clause-pays
returns-clause-pays g c =
    let pays = c.in_ok-below.ensures.pays in
    record { paid = omega (arith, pays.paid, ap (unread_of c.args.index.now) c.in_ok-top.ensures.shape); within = pays.within; room = pays.room }

pub returns-clause-flat : goal.returns-clause-flat
returns-clause-flat g c =
    sums_as_one c.args.index.now c.args.scheme c.args.factor c.in_ok-below.below (shape_of c.in_ok-below.node) (shape_of c.in_ok-top.node) _ _ _ c.in_ok-top.ensures.shape c.in_ok-below.ensures.nest

pub returns-then-numbers-eq1-clause-flat : goal.returns-then-numbers-eq1-clause-flat
returns-then-numbers-eq1-clause-flat g c = IfOk-weaker c.open_one.result _ _ (λ p h. one_as_one c.args.index.now (shape_of p.1) _ _ _ h) c.open_one.ensures.nest

pub open_one-requires-clause-there : goal.open_one-requires-clause-there
open_one-requires-clause-there g c = c.requires.there

pub open_one-requires-clause-can : goal.open_one-requires-clause-can
open_one-requires-clause-can g c = c.requires.can

pub open_sums-requires-clause-there : goal.open_sums-requires-clause-there
open_sums-requires-clause-there g c = c.requires.there

pub open_sums-requires-clause-apart : goal.open_sums-requires-clause-apart
open_sums-requires-clause-apart g c = c.requires.apart

pub returns-then-numbers-eq1-clause-opens : goal.returns-then-numbers-eq1-clause-opens
returns-then-numbers-eq1-clause-opens g c = c.open_one.ensures.opens

pub returns-then-numbers-eq1-clause-pays : goal.returns-then-numbers-eq1-clause-pays
returns-then-numbers-eq1-clause-pays g c = c.open_one.ensures.pays

pub returns-then-numbers-eq1-clause-counts : goal.returns-then-numbers-eq1-clause-counts
returns-then-numbers-eq1-clause-counts g c = c.open_one.ensures.counts

pub returns-in_err-below-clause-counts : goal.returns-in_err-below-clause-counts
returns-in_err-below-clause-counts g c = c.open_sums.ensures.counts

pub returns-in_err-top-clause-counts : goal.returns-in_err-top-clause-counts
returns-in_err-top-clause-counts g c = c.open_sums.ensures.counts

pub returns-clause-counts : goal.returns-clause-counts
returns-clause-counts g c = c.open_sums.ensures.counts
