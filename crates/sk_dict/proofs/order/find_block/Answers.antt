use Rattle.std.proofs.Common.{◌<◌, ◌+◌, ◌-◌, ◌/◌, ℕ, sym, ◌∙◌, length, arith}
use Rattle.sk_dict.specs.Order.{IsKnown}
use Rattle.sk_dict.proofs.BlockLemmas.{begins, first_has, halved_low, halved_high}
use Rattle.sk_dict.proofs.order.find_block.Goals as goal

-- the first number of the block has a term
pub is_passed-requires-clause-there : goal.is_passed-requires-clause-there
is_passed-requires-clause-there c =
    let middle : ℕ = c.halves.low + (c.halves.high - c.halves.low) / 2 in
    let there : middle < length c.args.blocks.now = omega (arith, c.halves.invariant.within) in
    first_has (IsKnown c.args.terms.now) c.args.blocks.now middle _ c.requires.known
    (begins c.args.blocks.now middle _ _ there c.index-blocks-middle.is c.numbers.ensures.value c.numbers.ensures.sized.some)

-- it passes
pub halves-preserved-then-is_passed : goal.halves-preserved-then-is_passed
halves-preserved-then-is_passed c =
    let middle : ℕ = c.halves.low + (c.halves.high - c.halves.low) / 2 in
    let there : middle < length c.args.blocks.now = omega (arith, c.halves.invariant.within) in
    halved_low c.args.terms.now c.args.key.now c.args.behind c.args.blocks.now c.halves.low middle c.halves.high _ c.requires.rising c.halves.invariant (omega arith)
    (begins c.args.blocks.now middle _ _ there c.index-blocks-middle.is c.numbers.ensures.value c.numbers.ensures.sized.some)
    (sym c.is_passed.ensures ∙ c.if-is_passed.true)

-- it does not
pub halves-preserved : goal.halves-preserved
halves-preserved c =
    let middle : ℕ = c.halves.low + (c.halves.high - c.halves.low) / 2 in
    let there : middle < length c.args.blocks.now = omega (arith, c.halves.invariant.within) in
    halved_high c.args.terms.now c.args.key.now c.args.behind c.args.blocks.now c.halves.low middle c.halves.high _ c.requires.rising c.halves.invariant (omega arith)
    (begins c.args.blocks.now middle _ _ there c.index-blocks-middle.is c.numbers.ensures.value c.numbers.ensures.sized.some)
    (sym c.is_passed.ensures ∙ c.if-is_passed.false)
