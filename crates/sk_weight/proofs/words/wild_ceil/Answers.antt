-- Lists with a wdf above 0 are not empty, and the others weigh by how long they are.
use Rattle.std.proofs.Common.{◌≡◌, ◌<◌, ◌∙◌, ap, subst, arith}
use Rattle.sk_base.specs.Numbers.{wild_length_of, wild_greatest_of}
use Rattle.sk_model.specs.Weights.{weigh_by}
use Rattle.sk_model.specs.Bounds.{joint_ceil}
use Rattle.sk_weight.proofs.WildLemmas.{wild_some}
use Rattle.sk_weight.proofs.words.wild_ceil.Goals as goal

pub returns-then-greatest-gt0 : goal.returns-then-greatest-gt0
returns-then-greatest-gt0 g c =
    let docs = g.S.Stats.documents c.args.stats.now in
    let bytes = c.as_bytes-prefix.ensures.value ∙ c.as_str.ensures in
    let greatest = c.wild_greatest-greatest.ensures ∙ ap (λ p. wild_greatest_of p docs) bytes in
    c.weigh_by.ensures.value ∙ ap (weigh_by c.args.factor c.args.scheme) (c.from.ensures ∙ greatest)
    ∙ wild_some c.args.scheme c.args.factor c.args.prefix.now docs (subst (λ n. 0 < n) greatest c.if-greatest-gt0.true)

pub returns : goal.returns
returns g c =
    let docs = g.S.Stats.documents c.args.stats.now in
    let bytes = c.as_bytes-prefix.ensures.value ∙ c.as_str.ensures in
    let long = c.from-2.ensures ∙ c.wild_length.ensures ∙ ap (λ p. wild_length_of p docs) bytes in
    let greatest = c.wild_greatest-greatest.ensures ∙ ap (λ p. wild_greatest_of p docs) bytes in
    let none : 0 ≡ wild_greatest_of c.args.prefix.now docs = omega (arith, c.if-greatest-gt0.false, greatest) in
    c.joint_ceil.ensures ∙ (λ j. joint_ceil c.args.scheme c.args.factor (long j) (none j))
