-- One half and the other.
use Rattle.std.proofs.Common.{ap, arith}
use Rattle.sk_nodes.specs.Shapes.{sides_on}
use Rattle.sk_nodes.specs.Left.{greatest_sum}
use Rattle.sk_nodes.proofs.ManyLaws.{sides_split, greatest_behind}
use Rattle.sk_nodes.proofs.many.+sum_of.Goals as goal

pub sum_of-requires : goal.sum_of-requires
sum_of-requires t c =
    let whole = sides_split _ c.args.tops.now _ _ c.args.nodes.now _ _ c.split_at.ensures.front c.split_at.ensures.back c.split_at-2.ensures.front c.split_at-2.ensures.back in
    (omega (arith, c.decreases, c.split_at.ensures.front_len, c.split_at.ensures.back_len, c.if-count-le-FEW.false, c.min-count.ensures), omega (arith, c.requires, ap greatest_sum whole, greatest_behind (sides_on c.split_at.result.0.now c.split_at-2.result.0.now) (sides_on c.split_at.result.1.now c.split_at-2.result.1.now)))

pub sum_of-requires-2 : goal.sum_of-requires-2
sum_of-requires-2 t c =
    let whole = sides_split _ c.args.tops.now _ _ c.args.nodes.now _ _ c.split_at.ensures.front c.split_at.ensures.back c.split_at-2.ensures.front c.split_at-2.ensures.back in
    (omega (arith, c.decreases, c.split_at.ensures.front_len, c.split_at.ensures.back_len, c.if-count-le-FEW.false, c.min-count.ensures), omega (arith, c.requires, ap greatest_sum whole, greatest_behind (sides_on c.split_at.result.0.now c.split_at-2.result.0.now) (sides_on c.split_at.result.1.now c.split_at-2.result.1.now)))

pub overflow_add-result : goal.overflow_add-result
overflow_add-result t c =
    let whole = sides_split _ c.args.tops.now _ _ c.args.nodes.now _ _ c.split_at.ensures.front c.split_at.ensures.back c.split_at-2.ensures.front c.split_at-2.ensures.back in
    omega (arith, c.requires, ap greatest_sum whole, greatest_behind (sides_on c.split_at.result.0.now c.split_at-2.result.0.now) (sides_on c.split_at.result.1.now c.split_at-2.result.1.now), c.sum_of.ensures, c.sum_of-2.ensures)

pub returns : goal.returns
returns t c =
    let whole = sides_split _ c.args.tops.now _ _ c.args.nodes.now _ _ c.split_at.ensures.front c.split_at.ensures.back c.split_at-2.ensures.front c.split_at-2.ensures.back in
    omega (arith, ap greatest_sum whole, greatest_behind (sides_on c.split_at.result.0.now c.split_at-2.result.0.now) (sides_on c.split_at.result.1.now c.split_at-2.result.1.now), c.sum_of.ensures, c.sum_of-2.ensures)
