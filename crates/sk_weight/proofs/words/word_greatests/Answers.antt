use Rattle.std.proofs.Common.{map, refl, arith}
use Rattle.sk_base.specs.Numbers.{greatest_of}
use Rattle.sk_weight.proofs.TogetherLemmas.{end_together}
use Rattle.sk_weight.proofs.words.word_greatests.Goals as goal

pub returns : goal.returns
returns g c = end_together (map (λ t. greatest_of t (g.S.Stats.documents c.args.stats.now))) c.words.greatests c.args.words.now c.words.word-index refl (omega arith) c.words.invariant
