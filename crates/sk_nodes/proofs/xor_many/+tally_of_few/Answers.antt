-- One side beside the others.
use Rattle.std.proofs.Common.{◌≤◌, sym, subst, arith}
use Rattle.sk_nodes.specs.Shapes.{Sides}
use Rattle.sk_nodes.specs.Left.{rests}
use Rattle.sk_nodes.specs.Sound.{AreSound}
use Rattle.sk_nodes.specs.Many.{AreFrom}
use Rattle.sk_nodes.specs.XorMany.{IsTally}
use Rattle.sk_nodes.proofs.ManyLaws.{sides_cons}
use Rattle.sk_nodes.proofs.xor_many.+tally_of_few.Goals as goal

pub returns-in-Some-split_first-clause-tallied : goal.returns-in-Some-split_first-clause-tallied
returns-in-Some-split_first-clause-tallied t c i =
    subst (λ (ss : Sides). AreSound i ss → IsTally (rests i ss) c.joined.result)
    (sym (sides_cons c.args.tops.now c.in-Some.tops.now c.args.nodes.now c.in-Some-split_first.nodes.now _ _ c.in-Some.ensures.cases c.in-Some-split_first.ensures.cases))
    (λ sound. c.joined.ensures.tallied _ _ (c.tally_of_one.ensures.tallied i _ sound.top) (c.tally_of_few.ensures.tallied i sound.others))

pub returns-in-Some-split_first-clause-reached : goal.returns-in-Some-split_first-clause-reached
returns-in-Some-split_first-clause-reached t c from small =
    subst (λ (ss : Sides). AreFrom from ss → from ≤ c.joined.result.head)
    (sym (sides_cons c.args.tops.now c.in-Some.tops.now c.args.nodes.now c.in-Some-split_first.nodes.now _ _ c.in-Some.ensures.cases c.in-Some-split_first.ensures.cases))
    (λ reached. c.joined.ensures.reached from (omega (arith, c.tally_of_one.ensures.head, reached.0)) (c.tally_of_few.ensures.reached from small reached.1))
