use Rattle.std.proofs.Common.{subst, arith}
use Rattle.sk_facets.specs.Tallied.{AreChosen, AreOrdered}
use Rattle.sk_facets.proofs.FirstLemmas.{few_first, many_first}
use Rattle.sk_facets.proofs.TallyLemmas.{if_ok}
use Rattle.sk_facets.proofs.first.first_of.Goals as goal

pub returns-then-size-len : goal.returns-then-size-len
returns-then-size-len c =
    if_ok c.in_order.result _ _
    (λ facets ordered values t. many_first values c.args.size c.args.entries.items facets.items c.choose-front.result.now
    (subst (λ es. AreChosen es c.choose-front.result.now c.args.size) c.deref_mut.ensures.value c.choose-front.ensures) ordered t)
    c.in_order.ensures

pub returns : goal.returns
returns c =
    if_ok c.in_order-2.result _ _
    (λ facets ordered values t. few_first values c.args.size c.args.entries.items facets.items (omega (arith, c.if-size-len.false, c.args.entries.ok))
    (subst (λ es. AreOrdered es facets.items) c.deref_mut-2.ensures.value ordered) t)
    c.in_order-2.ensures
