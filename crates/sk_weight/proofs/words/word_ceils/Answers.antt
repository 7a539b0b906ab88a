use Rattle.std.proofs.Common.{map, refl, arith}
use Rattle.sk_model.specs.Bounds.{term_ceil}
use Rattle.sk_weight.proofs.TogetherLemmas.{end_together}
use Rattle.sk_weight.proofs.words.word_ceils.Goals as goal

pub returns : goal.returns
returns g c = end_together (map (λ t. term_ceil c.args.scheme c.args.factor t (g.S.Stats.documents c.args.stats.now))) c.words.bounds c.args.words.now c.words.word-index refl (omega arith) c.words.invariant
