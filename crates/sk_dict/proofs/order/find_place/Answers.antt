use Rattle.std.proofs.Common.{◌≡◌, ℕ, sym, subst, ◌∙◌, true, false, take, drop}
use Rattle.sk_dict.specs.Order.{Each, IsKnown, IsRising}
use Rattle.sk_dict.specs.Blocks.{in_block}
use Rattle.sk_dict.specs.Searches.{passes}
use Rattle.sk_dict.proofs.BlockLemmas.{read_block, block_has, block_rises, place_splits}
use Rattle.sk_dict.proofs.order.find_place.Goals as goal

-- the numbers of the block that was found
pub find_slot-offset-requires-clause-rising : goal.find_slot-offset-requires-clause-rising
find_slot-offset-requires-clause-rising c =
    let same : c.numbers.result.now ≡ in_block c.args.blocks.now c.find_block-block.result =
    c.numbers.ensures.value ∙ read_block c.args.blocks.now c.find_block-block.result _ c.find_block-block.ensures.there c.index-blocks-block.is in
    subst (IsRising c.args.terms.now) (sym same) (block_rises c.args.terms.now c.args.blocks.now c.find_block-block.result c.find_block-block.ensures.there c.requires.rising)

pub find_slot-offset-requires-clause-known : goal.find_slot-offset-requires-clause-known
find_slot-offset-requires-clause-known c =
    let same : c.numbers.result.now ≡ in_block c.args.blocks.now c.find_block-block.result =
    c.numbers.ensures.value ∙ read_block c.args.blocks.now c.find_block-block.result _ c.find_block-block.ensures.there c.index-blocks-block.is in
    subst (Each (IsKnown c.args.terms.now)) (sym same) (block_has (IsKnown c.args.terms.now) c.args.blocks.now c.find_block-block.result c.find_block-block.ensures.there c.requires.known)

-- the offset parts the block, and the block parts the order
pub returns-clause-split : goal.returns-clause-split
returns-clause-split c =
    let test : ℕ → _ = passes c.args.terms.now c.args.key.now c.args.behind in
    let same : c.numbers.result.now ≡ in_block c.args.blocks.now c.find_block-block.result =
    c.numbers.ensures.value ∙ read_block c.args.blocks.now c.find_block-block.result _ c.find_block-block.ensures.there c.index-blocks-block.is in
    place_splits test c.args.blocks.now c.find_block-block.result c.find_slot-offset.result c.find_block-block.ensures.there c.find_block-block.ensures.front c.find_block-block.ensures.back
    (subst (λ w. Each (λ n. test n ≡ true) (take c.find_slot-offset.result w)) same c.find_slot-offset.ensures.front)
    (subst (λ w. Each (λ n. test n ≡ false) (drop c.find_slot-offset.result w)) same c.find_slot-offset.ensures.back)
