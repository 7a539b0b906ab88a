-- What begins first, and both where they begin together.
use Rattle.std.proofs.Common.{◌≡◌, Bool, true, false, not, if◌then◌else◌, refl, arith}
use mathlib.Core.Bool.{beq}
use Rattle.sk_nodes.proofs.ManyLaws.{tally_others, tally_some, tally_both}
use Rattle.sk_nodes.proofs.xor_many.joined.Goals as goal

pub returns-then-others-some-clause-tallied : goal.returns-then-others-some-clause-tallied
returns-then-others-some-clause-tallied c f g some others = tally_others f g c.args.some c.args.others some others (omega (arith, c.if-others-some.true))

pub returns-then-some-others-clause-tallied : goal.returns-then-some-others-clause-tallied
returns-then-some-others-clause-tallied c f g some others = tally_some f g c.args.some c.args.others some others (omega (arith, c.if-some-others.true))

differ : (b c : Bool) → not (beq b c) ≡ (if b then not c else c)
differ true true = refl
differ true false = refl
differ false true = refl
differ false false = refl

pub returns-clause-tallied : goal.returns-clause-tallied
returns-clause-tallied c f g some others = tally_both f g c.args.some c.args.others some others _ (differ c.args.some.odd c.args.others.odd) (omega (arith, c.if-others-some.false, c.if-some-others.false))
