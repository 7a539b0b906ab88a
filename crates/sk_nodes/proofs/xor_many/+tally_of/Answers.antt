-- One half and the other.
use Rattle.std.proofs.Common.{◌≤◌, sym, subst, ap, arith}
use Rattle.sk_nodes.specs.Shapes.{Sides, sides_on}
use Rattle.sk_nodes.specs.Left.{rests}
use Rattle.sk_nodes.specs.Sound.{AreSound}
use Rattle.sk_nodes.specs.Many.{weight_sum, AreFrom}
use Rattle.sk_nodes.specs.XorMany.{IsTally}
use Rattle.sk_nodes.proofs.ManyLaws.{sides_split, both_sound, both_from, weight_behind, tally_behind}
use Rattle.sk_nodes.proofs.xor_many.+tally_of.Goals as goal

pub tally_of-requires : goal.tally_of-requires
tally_of-requires t c =
    let whole = sides_split _ c.args.tops.now _ _ c.args.nodes.now _ _ c.split_at.ensures.front c.split_at.ensures.back c.split_at-2.ensures.front c.split_at-2.ensures.back in
    (omega (arith, c.decreases, c.split_at.ensures.front_len, c.split_at.ensures.back_len, c.if-count-le-FEW.false, c.min-count.ensures), omega (arith, c.requires, ap weight_sum whole, weight_behind (sides_on c.split_at.result.0.now c.split_at-2.result.0.now) (sides_on c.split_at.result.1.now c.split_at-2.result.1.now)))

pub tally_of-requires-2 : goal.tally_of-requires-2
tally_of-requires-2 t c =
    let whole = sides_split _ c.args.tops.now _ _ c.args.nodes.now _ _ c.split_at.ensures.front c.split_at.ensures.back c.split_at-2.ensures.front c.split_at-2.ensures.back in
    (omega (arith, c.decreases, c.split_at.ensures.front_len, c.split_at.ensures.back_len, c.if-count-le-FEW.false, c.min-count.ensures), omega (arith, c.requires, ap weight_sum whole, weight_behind (sides_on c.split_at.result.0.now c.split_at-2.result.0.now) (sides_on c.split_at.result.1.now c.split_at-2.result.1.now)))

pub joined-requires : goal.joined-requires
joined-requires t c =
    let whole = sides_split _ c.args.tops.now _ _ c.args.nodes.now _ _ c.split_at.ensures.front c.split_at.ensures.back c.split_at-2.ensures.front c.split_at-2.ensures.back in
    record { fits = omega (arith, c.requires, ap weight_sum whole, weight_behind (sides_on c.split_at.result.0.now c.split_at-2.result.0.now) (sides_on c.split_at.result.1.now c.split_at-2.result.1.now), c.tally_of.ensures.within, c.tally_of-2.ensures.within) }

pub returns-clause-tallied : goal.returns-clause-tallied
returns-clause-tallied t c i =
    let whole = sides_split _ c.args.tops.now _ _ c.args.nodes.now _ _ c.split_at.ensures.front c.split_at.ensures.back c.split_at-2.ensures.front c.split_at-2.ensures.back in
    subst (λ (ss : Sides). AreSound i ss → IsTally (rests i ss) c.joined.result) (sym whole)
    (λ sound. tally_behind i _ _ c.joined.result (c.joined.ensures.tallied _ _ (c.tally_of.ensures.tallied i (both_sound i _ _ sound).0) (c.tally_of-2.ensures.tallied i (both_sound i _ _ sound).1)))

pub returns-clause-reached : goal.returns-clause-reached
returns-clause-reached t c from small =
    let whole = sides_split _ c.args.tops.now _ _ c.args.nodes.now _ _ c.split_at.ensures.front c.split_at.ensures.back c.split_at-2.ensures.front c.split_at-2.ensures.back in
    subst (λ (ss : Sides). AreFrom from ss → from ≤ c.joined.result.head) (sym whole)
    (λ reached. c.joined.ensures.reached from (c.tally_of.ensures.reached from small (both_from from _ _ reached).0) (c.tally_of-2.ensures.reached from small (both_from from _ _ reached).1))

pub returns-clause-within : goal.returns-clause-within
returns-clause-within t c =
    let whole = sides_split _ c.args.tops.now _ _ c.args.nodes.now _ _ c.split_at.ensures.front c.split_at.ensures.back c.split_at-2.ensures.front c.split_at-2.ensures.back in
    omega (arith, ap weight_sum whole, weight_behind (sides_on c.split_at.result.0.now c.split_at-2.result.0.now) (sides_on c.split_at.result.1.now c.split_at-2.result.1.now), c.tally_of.ensures.within, c.tally_of-2.ensures.within, c.joined.ensures.within)
