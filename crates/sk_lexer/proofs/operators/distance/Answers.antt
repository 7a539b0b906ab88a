use Rattle.std.proofs.Common.{sym, ap, ◌∙◌, arith}
use Rattle.std.proofs.lemmas.List.{drop_all}
use Rattle.sk_lexer.specs.Shown.{distance_behind}
use Rattle.sk_lexer.proofs.OperatorLemmas.{distance_is}
use Rattle.sk_lexer.proofs.operators.distance.Goals as goal

pub returns : goal.returns
returns c =
    ap (distance_behind c.digits.n) (sym (drop_all c.digits.b-index c.args.digits.now (omega arith)))
    ∙ c.digits.invariant.rest ∙ distance_is c.args.digits.now
