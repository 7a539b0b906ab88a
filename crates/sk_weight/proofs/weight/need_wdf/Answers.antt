-- What weighs the needed part of the need, rounded up, weighs the need under the factor.
use Rattle.std.proofs.Common.{◌≡◌, ◌+◌, ◌/◌, ◌%◌, ℕ, min, subst, arith}
use Rattle.std.proofs.lemmas.Option.{IfSome_then}
use Rattle.sk_model.specs.Weights.{weigh}
use Rattle.sk_weight.proofs.WeightLemmas.{enough_by}
use Rattle.sk_weight.proofs.weight.need_wdf.Goals as goal

pub returns-clause-enough : goal.returns-clause-enough
returns-clause-enough c =
    IfSome_then c.least_wdf.result c.least_wdf.ensures.enough
    (λ n h. enough_by c.args.factor c.args.need c.div_ceil-least.result (weigh c.args.scheme n) (omega (arith, c.if-factor-eq0.false))
    (subst (λ (f : ℕ). c.div_ceil-least.result ≡ c.args.need / f + min 1 (c.args.need % f)) c.from.ensures c.div_ceil-least.ensures) h)
