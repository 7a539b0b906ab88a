-- One side put to the others.
use Rattle.std.proofs.Common.{◌≤◌, sym, subst, arith}
use Rattle.sk_model.specs.Combining.{either, sum_of_any}
use Rattle.sk_decay.specs.Heads.{IsHead}
use Rattle.sk_nodes.specs.Shapes.{Sides, sides_on}
use Rattle.sk_nodes.specs.Left.{rests}
use Rattle.sk_nodes.specs.Sound.{AreSound}
use Rattle.sk_nodes.specs.Many.{AreFrom}
use Rattle.sk_nodes.proofs.ManyLaws.{sides_cons}
use Rattle.sk_nodes.proofs.OrManyLaws.{first_before, first_behind, first_with}
use Rattle.sk_nodes.proofs.or_many.+first_of.Goals as goal

pub returns-then-top-head-clause-first : goal.returns-then-top-head-clause-first
returns-then-top-head-clause-first t c i others =
    subst (λ (ss : Sides). AreSound i ss → IsHead c.args.head c.args.weight others → IsHead c.first_of.result.head c.first_of.result.weight (λ id. either (others id) (sum_of_any (rests i ss id)))) (sym (sides_cons c.args.tops.now c.in-Some.tops.now c.args.nodes.now c.in-Some-split_first.nodes.now _ _ c.in-Some.ensures.cases c.in-Some-split_first.ensures.cases))
    (λ sound head. first_before i others c.args.head c.args.weight c.in-Some.top.now _ (sides_on c.in-Some.tops.now c.in-Some-split_first.nodes.now) c.first_of.result.head c.first_of.result.weight sound.top head (omega (arith, c.if-top-head.true))
    (λ more h. c.first_of.ensures.first i more sound.others h))

pub returns-then-top-head-clause-reached : goal.returns-then-top-head-clause-reached
returns-then-top-head-clause-reached t c from le =
    subst (λ (ss : Sides). AreFrom from ss → from ≤ c.first_of.result.head) (sym (sides_cons c.args.tops.now c.in-Some.tops.now c.args.nodes.now c.in-Some-split_first.nodes.now _ _ c.in-Some.ensures.cases c.in-Some-split_first.ensures.cases))
    (λ reached. c.first_of.ensures.reached from (omega (arith, reached.0)) reached.1)

pub returns-then-head-top-clause-first : goal.returns-then-head-top-clause-first
returns-then-head-top-clause-first t c i others =
    subst (λ (ss : Sides). AreSound i ss → IsHead c.args.head c.args.weight others → IsHead c.first_of-then-head-top.result.head c.first_of-then-head-top.result.weight (λ id. either (others id) (sum_of_any (rests i ss id)))) (sym (sides_cons c.args.tops.now c.in-Some.tops.now c.args.nodes.now c.in-Some-split_first.nodes.now _ _ c.in-Some.ensures.cases c.in-Some-split_first.ensures.cases))
    (λ sound head. first_behind i others c.args.head c.args.weight c.in-Some.top.now _ (sides_on c.in-Some.tops.now c.in-Some-split_first.nodes.now) c.first_of-then-head-top.result.head c.first_of-then-head-top.result.weight sound.top head (omega (arith, c.if-head-top.true))
    (λ more h. c.first_of-then-head-top.ensures.first i more sound.others h))

pub returns-then-head-top-clause-reached : goal.returns-then-head-top-clause-reached
returns-then-head-top-clause-reached t c from le =
    subst (λ (ss : Sides). AreFrom from ss → from ≤ c.first_of-then-head-top.result.head) (sym (sides_cons c.args.tops.now c.in-Some.tops.now c.args.nodes.now c.in-Some-split_first.nodes.now _ _ c.in-Some.ensures.cases c.in-Some-split_first.ensures.cases))
    (λ reached. c.first_of-then-head-top.ensures.reached from le reached.1)

pub returns-in-Some-split_first-clause-first : goal.returns-in-Some-split_first-clause-first
returns-in-Some-split_first-clause-first t c i others =
    subst (λ (ss : Sides). AreSound i ss → IsHead c.args.head c.args.weight others → IsHead c.first_of-in-Some-split_first.result.head c.first_of-in-Some-split_first.result.weight (λ id. either (others id) (sum_of_any (rests i ss id)))) (sym (sides_cons c.args.tops.now c.in-Some.tops.now c.args.nodes.now c.in-Some-split_first.nodes.now _ _ c.in-Some.ensures.cases c.in-Some-split_first.ensures.cases))
    (λ sound head. first_with i others c.args.head c.args.weight c.in-Some.top.now _ (sides_on c.in-Some.tops.now c.in-Some-split_first.nodes.now) c.first_of-in-Some-split_first.result.head c.first_of-in-Some-split_first.result.weight sound.top head (omega (arith, c.if-top-head.false, c.if-head-top.false))
    (λ more h. c.first_of-in-Some-split_first.ensures.first i more sound.others h))

pub returns-in-Some-split_first-clause-reached : goal.returns-in-Some-split_first-clause-reached
returns-in-Some-split_first-clause-reached t c from le =
    subst (λ (ss : Sides). AreFrom from ss → from ≤ c.first_of-in-Some-split_first.result.head) (sym (sides_cons c.args.tops.now c.in-Some.tops.now c.args.nodes.now c.in-Some-split_first.nodes.now _ _ c.in-Some.ensures.cases c.in-Some-split_first.ensures.cases))
    (λ reached. c.first_of-in-Some-split_first.ensures.reached from le reached.1)
