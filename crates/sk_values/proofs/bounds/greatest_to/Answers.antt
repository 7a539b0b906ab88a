use Rattle.std.proofs.Common.{List, IfSome, subst}
use Rattle.sk_values.specs.Numbers.{IsNumber}
use Rattle.sk_values.proofs.NumberLaws.{greatest-if}
use Rattle.sk_values.proofs.bounds.greatest_to.Goals as goal

pub returns-in-Some : goal.returns-in-Some
returns-in-Some c = rw c.in-Some.is (greatest-if c.number_of.result _ (subst (λ (v : List _). IfSome c.number_of.result (λ n. IsNumber n v)) c.as_slice.ensures c.number_of.ensures.number))
