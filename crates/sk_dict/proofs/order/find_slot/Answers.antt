use Rattle.std.proofs.Common.{◌+◌, ◌-◌, ◌/◌, ℕ, sym, ◌∙◌, arith}
use Rattle.sk_dict.proofs.BlockLemmas.{parted_low, parted_high}
use Rattle.sk_dict.proofs.order.find_slot.Goals as goal

-- the number in the middle passes
pub halves-preserved-then-is_passed : goal.halves-preserved-then-is_passed
halves-preserved-then-is_passed c =
    let middle : ℕ = c.halves.low + (c.halves.high - c.halves.low) / 2 in
    parted_low c.args.terms.now c.args.key.now c.args.behind c.args.numbers.now c.halves.low middle c.halves.high c.requires.rising c.halves.invariant (omega arith)
    (sym c.is_passed.ensures ∙ c.if-is_passed.true)

-- it does not
pub halves-preserved : goal.halves-preserved
halves-preserved c =
    let middle : ℕ = c.halves.low + (c.halves.high - c.halves.low) / 2 in
    parted_high c.args.terms.now c.args.key.now c.args.behind c.args.numbers.now c.halves.low middle c.halves.high c.requires.rising c.halves.invariant (omega arith) (omega arith)
    (sym c.is_passed.ensures ∙ c.if-is_passed.false)
