use Rattle.std.proofs.Common.{◌∙◌, ap, sym, refl, arith}
use Rattle.sk_query.specs.Trees.{synonym, query_view, queries_view}
use Rattle.sk_query.proofs.ViewLaws.{view-Synonym}
use Rattle.sk_model.specs.Bounds.{ceil, ceils, sum_in, terms_ceil, lengths_of, greatests_of}
use Rattle.sk_model.proofs.WeightLaws.{ceil_small}
use Rattle.sk_weight.proofs.TogetherLemmas.{end_together, joint_same}
use Rattle.sk_weight.proofs.BoundLemmas.{summed, worded, whole_sum}
use Rattle.sk_weight.proofs.bounds.+ceil.Goals as goal

pub ceil-returns-in-Synonym : goal.ceil-returns-in-Synonym
ceil-returns-in-Synonym g t c =
    let docs = g.S.Stats.documents c.args.stats.now in
    c.joint_ceil.ensures
    ∙ joint_same c.args.scheme c.args.factor c.word_lengths-long.result.sum c.word_greatests.result.sum
    (lengths_of c.as_slice-words.result.now docs) (greatests_of c.as_slice-words.result.now docs) c.word_lengths-long.ensures.sum c.word_greatests.ensures.sum
    ∙ ap (λ ts. ceil (synonym ts) c.args.scheme c.args.factor docs) c.as_slice-words.ensures
    ∙ ap (λ t. ceil t c.args.scheme c.args.factor docs) (sym (view-Synonym c.in-Synonym.words))
    ∙ ap (λ q. ceil (query_view q) c.args.scheme c.args.factor docs) (sym c.in-Synonym.is)

pub ceil-returns-in-Near : goal.ceil-returns-in-Near
ceil-returns-in-Near g t c =
    let docs = g.S.Stats.documents c.args.stats.now in
    whole_sum c.word_ceils.result.sum (terms_ceil c.args.scheme c.args.factor c.as_slice.result.now docs) (ceil (query_view c.args.query.now) c.args.scheme c.args.factor docs) c.word_ceils.ensures.sum
    (worded c.args.scheme c.args.factor docs c.args.query.now c.in-Near.words c.in-Near.is ∙ ap (λ ts. terms_ceil c.args.scheme c.args.factor ts docs) (sym c.as_slice.ensures))
    (ceil_small c.args.scheme docs c.requires.light (query_view c.args.query.now) c.args.factor c.requires.sound c.requires.factor c.requires.leaves)

pub ceil-returns-in-And : goal.ceil-returns-in-And
ceil-returns-in-And g t c =
    let docs = g.S.Stats.documents c.args.stats.now in
    whole_sum c.ceils-in-And.result.sum (sum_in (ceils (queries_view c.deref-in-And.result.now) c.args.scheme c.args.factor docs)) (ceil (query_view c.args.query.now) c.args.scheme c.args.factor docs)
    c.ceils-in-And.ensures.sum
    (summed c.args.scheme c.args.factor docs c.args.query.now c.in-And.parts c.in-And.is
    ∙ ap (λ ps. sum_in (ceils (queries_view ps) c.args.scheme c.args.factor docs)) (sym c.deref-in-And.ensures.value))
    (ceil_small c.args.scheme docs c.requires.light (query_view c.args.query.now) c.args.factor c.requires.sound c.requires.factor c.requires.leaves)

pub ceils-returns : goal.ceils-returns
ceils-returns g t c =
    end_together (λ ps. ceils (queries_view ps) c.args.scheme c.args.factor (g.S.Stats.documents c.args.stats.now)) c.parts.bounds c.args.parts.now c.parts.part-index refl (omega arith) c.parts.invariant.whole
