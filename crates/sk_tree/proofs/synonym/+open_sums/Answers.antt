-- Two halves, whose sums are no more together than those of a document can be.
use Rattle.std.proofs.Common.{◌∙◌, min, ap, sym, arith}
use Rattle.sk_query.specs.declared.form.Form.TheVariants as Form
use Rattle.sk_model.specs.Edits.{document_at}
use Rattle.sk_decay.specs.Sides.{paired}
use Rattle.sk_nodes.specs.Shapes.{shape_of}
use Rattle.sk_tree.proofs.SynonymLaws.{sums_capped}
use Rattle.sk_tree.proofs.MergeOpenLaws.{counts_both}
use Rattle.sk_tree.proofs.NestLaws.{halves_nest, paired_nest}
use Rattle.sk_tree.proofs.synonym.+open_sums.Goals as goal

pub open_sums-requires : goal.open_sums-requires
open_sums-requires g t c κs within =
    let halves = c.number_halves.ensures c.args.index.now c.requires.there c.requires.apart in
    (omega (arith, c.decreases, halves.front_shorter), (within, (halves.front_there, (halves.front_apart, c.requires.can))))

pub open_sums-requires-2 : goal.open_sums-requires-2
open_sums-requires-2 g t c κs within =
    let halves = c.number_halves.ensures c.args.index.now c.requires.there c.requires.apart in
    let can = c.requires.can in
    (omega (arith, c.decreases, halves.back_shorter), (within, (halves.back_there, (halves.back_apart, record { read = record { documents = can.read.documents; room = c.in_ok-ta.ensures.pays.room; small = c.open_sums.ensures.counts.small }; bounded = can.bounded; light = can.light }))))

pub pair_of-requires-clause-pair : goal.pair_of-requires-clause-pair
pair_of-requires-clause-pair g t c =
    let a = c.in_ok-ta.ensures.opens in
    let b = c.in-Ok.ensures.opens in
    record { first = a.top; second = b.top; first_sound = a.sound; second_sound = b.sound; fits = omega (arith, a.ceiling, b.ceiling) }

pub returns-clause-pays : goal.returns-clause-pays
returns-clause-pays g t c =
    let halves = c.number_halves.ensures c.args.index.now c.requires.there c.requires.apart in
    let first = c.in_ok-ta.ensures.pays in
    let others = c.in-Ok.ensures.pays in
    record {
      paid = omega (arith, c.in_ok-top.ensures.paid, first.paid, others.paid);
      within = omega (arith, halves.readings, first.within, others.within);
      room = omega (arith, c.in_ok-top.ensures.paid, first.paid, others.paid, c.requires.can.read.room);
    }

pub returns-clause-opens : goal.returns-clause-opens
returns-clause-opens g t c =
    let i = c.args.index.now in
    sums_capped i c.in_ok-top.top c.capped.result (shape_of c.in_ok-top.node) c.args.numbers.now c.capped.ensures.head c.capped.ensures.weight (c.capped.ensures.greatest ∙ ap (λ n. min c.in_ok-top.top.greatest n) c.from.ensures)
    c.requires.apart c.requires.can.light c.in_ok-top.ensures.yields.top c.in_ok-top.ensures.yields.sound
    (λ id. c.in_ok-top.ensures.yields.gives id ∙ (λ j. paired Form.Or (c.in_ok-ta.ensures.opens.gives id j) (c.in-Ok.ensures.opens.gives id j)) ∙ sym ((c.number_halves.ensures i c.requires.there c.requires.apart).wdfs (document_at id i.live.documents)))

pub returns-clause-nest : goal.returns-clause-nest
returns-clause-nest g t c =
    let i = c.args.index.now in
    halves_nest i (shape_of c.in_ok-ta.a) (shape_of c.in-Ok.b) (shape_of c.in_ok-top.node) _ _ _ _ _ _ _ c.in_ok-ta.ensures.nest c.in-Ok.ensures.nest (λ joint first second. paired_nest i Form.Or _ _ c.in_ok-ta.ta (shape_of c.in_ok-ta.a) c.in-Ok.tb (shape_of c.in-Ok.b) (shape_of c.in_ok-top.node) c.in_ok-top.ensures.accounts.all first second joint) (c.number_halves.ensures i c.requires.there c.requires.apart).terms

pub open_one-requires-clause-there : goal.open_one-requires-clause-there
open_one-requires-clause-there g t c = c.requires.there

pub open_one-requires-clause-can : goal.open_one-requires-clause-can
open_one-requires-clause-can g t c = c.requires.can

pub returns-then-numbers-eq1-clause-opens : goal.returns-then-numbers-eq1-clause-opens
returns-then-numbers-eq1-clause-opens g t c = c.open_one.ensures.opens

pub returns-then-numbers-eq1-clause-pays : goal.returns-then-numbers-eq1-clause-pays
returns-then-numbers-eq1-clause-pays g t c = c.open_one.ensures.pays

pub returns-then-numbers-eq1-clause-counts : goal.returns-then-numbers-eq1-clause-counts
returns-then-numbers-eq1-clause-counts g t c = c.open_one.ensures.counts

pub returns-then-numbers-eq1-clause-nest : goal.returns-then-numbers-eq1-clause-nest
returns-then-numbers-eq1-clause-nest g t c = c.open_one.ensures.nest

pub open_many-requires-clause-there : goal.open_many-requires-clause-there
open_many-requires-clause-there g t c = c.requires.there

pub open_many-requires-clause-apart : goal.open_many-requires-clause-apart
open_many-requires-clause-apart g t c = c.requires.apart

pub open_many-requires-clause-can : goal.open_many-requires-clause-can
open_many-requires-clause-can g t c = c.requires.can

pub returns-then-numbers-gt-FEW_TERMS-clause-opens : goal.returns-then-numbers-gt-FEW_TERMS-clause-opens
returns-then-numbers-gt-FEW_TERMS-clause-opens g t c = c.open_many.ensures.opens

pub returns-then-numbers-gt-FEW_TERMS-clause-pays : goal.returns-then-numbers-gt-FEW_TERMS-clause-pays
returns-then-numbers-gt-FEW_TERMS-clause-pays g t c = c.open_many.ensures.pays

pub returns-then-numbers-gt-FEW_TERMS-clause-counts : goal.returns-then-numbers-gt-FEW_TERMS-clause-counts
returns-then-numbers-gt-FEW_TERMS-clause-counts g t c = c.open_many.ensures.counts

pub returns-then-numbers-gt-FEW_TERMS-clause-nest : goal.returns-then-numbers-gt-FEW_TERMS-clause-nest
returns-then-numbers-gt-FEW_TERMS-clause-nest g t c = c.open_many.ensures.nest

pub returns-in_err-ta-clause-counts : goal.returns-in_err-ta-clause-counts
returns-in_err-ta-clause-counts g t c = c.open_sums.ensures.counts

pub returns-in_default-clause-counts : goal.returns-in_default-clause-counts
returns-in_default-clause-counts g t c = counts_both _ _ _ _ _ _ _ _ c.open_sums.ensures.counts c.open_sums-2.ensures.counts

pub pair_of-requires-clause-room : goal.pair_of-requires-clause-room
pair_of-requires-clause-room g t c = omega (arith, c.in_ok-ta.ensures.pays.paid, c.in-Ok.ensures.pays.paid, c.open_sums-2.ensures.counts.small, c.requires.can.read.room)
