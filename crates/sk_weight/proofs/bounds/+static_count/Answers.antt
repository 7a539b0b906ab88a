use Rattle.std.proofs.Common.{◌∙◌, ap, sym, min, refl, arith}
use Rattle.sk_query.specs.Trees.{synonym, query_view, queries_view}
use Rattle.sk_query.proofs.ViewLaws.{view-Synonym}
use Rattle.sk_model.specs.Bounds.{static_count, statics, lengths_of, least_length}
use Rattle.sk_weight.proofs.TogetherLemmas.{end_together, capped_same}
use Rattle.sk_weight.proofs.BoundLemmas.{placed}
use Rattle.sk_weight.proofs.bounds.+static_count.Goals as goal

pub static_count-returns-in-Synonym : goal.static_count-returns-in-Synonym
static_count-returns-in-Synonym g t c =
    let docs = g.S.Stats.documents c.args.stats.now in
    capped_same c.min.result c.word_lengths.result.sum (lengths_of c.as_slice.result.now docs) c.from-live.result c.min.ensures c.word_lengths.ensures.sum (omega arith)
    ∙ ap (λ n. min n (lengths_of c.as_slice.result.now docs)) (c.from-live.ensures ∙ c.live.ensures)
    ∙ ap (λ ts. static_count (synonym ts) docs) c.as_slice.ensures
    ∙ ap (λ t. static_count t docs) (sym (view-Synonym c.in-Synonym.words))
    ∙ ap (λ q. static_count (query_view q) docs) (sym c.in-Synonym.is)

pub static_count-returns-in-Near : goal.static_count-returns-in-Near
static_count-returns-in-Near g t c =
    let docs = g.S.Stats.documents c.args.stats.now in
    c.unwrap_or.ensures ∙ c.word_lengths-in-Near.ensures.least
    ∙ ap (λ ts. least_length ts docs) c.as_slice-in-Near.ensures
    ∙ sym (placed docs c.args.query.now c.in-Near.words c.in-Near.is)

pub statics-returns : goal.statics-returns
statics-returns g t c = end_together (λ ps. statics (queries_view ps) (g.S.Stats.documents c.args.stats.now)) c.parts.counts c.args.parts.now c.parts.part-index refl (omega arith) c.parts.invariant
