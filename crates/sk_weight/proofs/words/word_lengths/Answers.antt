use Rattle.std.proofs.Common.{◌∙◌, ap, map, refl, arith}
use Rattle.sk_base.specs.Numbers.{length_of}
use Rattle.sk_weight.proofs.TogetherLemmas.{end_together, more_together}
use Rattle.sk_weight.proofs.words.word_lengths.Goals as goal

pub words-preserved : goal.words-preserved
words-preserved g c =
    more_together (λ t. length_of t (g.S.Stats.documents c.args.stats.now)) c.words.lengths _ c.from.result c.args.words.now c.words.word-index c.word-item.result _ (omega arith) c.word-item.is
    (c.from.ensures ∙ c.length.ensures ∙ ap (λ t. length_of t (g.S.Stats.documents c.args.stats.now)) (c.as_bytes.ensures.value ∙ c.as_str.ensures)) c.add.ensures c.words.invariant

pub returns : goal.returns
returns g c = end_together (map (λ t. length_of t (g.S.Stats.documents c.args.stats.now))) c.words.lengths c.args.words.now c.words.word-index refl (omega arith) c.words.invariant
