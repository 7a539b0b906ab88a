use Rattle.sk_grammar.proofs.CuttingLaws.{cut_some, cut_once}
use Rattle.sk_grammar.proofs.cutting.one_cutting.Goals as goal

pub returns-clause-some : goal.returns-clause-some
returns-clause-some c = cut_some

pub returns-clause-one : goal.returns-clause-one
returns-clause-one c = cut_once
