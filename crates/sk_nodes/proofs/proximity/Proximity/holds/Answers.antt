-- The document is in each list, and is not tested again.
use Rattle.std.proofs.Common.{length, sym, ap, ◌∙◌, arith}
use Rattle.sk_nodes.specs.Proximity.{stand, positions_in}
use Rattle.sk_nodes.proofs.ProximityLaws.{entries_left}
use Rattle.sk_nodes.proofs.proximity.Proximity.holds.Goals as goal

pub overflow_add-spent : goal.overflow_add-spent
overflow_add-spent g c =
    let left = entries_left c.args.index.now c.args.self.now.next c.args.head c.args.self.now.numbers.items c.requires.test.sorted c.requires.all (omega (arith, c.if-head-self.false)) in
    omega (arith, left, c.requires.room, c.len.ensures)

pub returns-in-Near-clause-spends : goal.returns-in-Near-clause-spends
returns-in-Near-clause-spends g c =
    let left = entries_left c.args.index.now c.args.self.now.next c.args.head c.args.self.now.numbers.items c.requires.test.sorted c.requires.all (omega (arith, c.if-head-self.false)) in
    let read = ap length c.as_slice-numbers.ensures.value in
    record { paid = omega (arith, left, c.len.ensures); counted = omega (arith, c.stand_near.ensures.cost, read, c.len.ensures); later = omega (arith, c.stand_near.ensures.cost) }

pub returns-in-Phrase-clause-spends : goal.returns-in-Phrase-clause-spends
returns-in-Phrase-clause-spends g c =
    let left = entries_left c.args.index.now c.args.self.now.next c.args.head c.args.self.now.numbers.items c.requires.test.sorted c.requires.all (omega (arith, c.if-head-self.false)) in
    let read = ap length c.as_slice-numbers.ensures.value in
    record { paid = omega (arith, left, c.len.ensures); counted = omega (arith, c.stand_as_phrase.ensures.cost, read, c.len.ensures); later = omega (arith, c.stand_as_phrase.ensures.cost) }

pub returns-in-Near-clause-value : goal.returns-in-Near-clause-value
returns-in-Near-clause-value g c =
    c.stand_near.ensures.value ∙ (λ j. stand (sym c.in-Near.is j) c.args.self.now.window (positions_in c.args.index.now (c.as_slice-numbers.ensures.value j) c.args.head))

pub returns-in-Phrase-clause-value : goal.returns-in-Phrase-clause-value
returns-in-Phrase-clause-value g c =
    c.stand_as_phrase.ensures.value ∙ (λ j. stand (sym c.in-Phrase.is j) c.args.self.now.window (positions_in c.args.index.now (c.as_slice-numbers.ensures.value j) c.args.head))
