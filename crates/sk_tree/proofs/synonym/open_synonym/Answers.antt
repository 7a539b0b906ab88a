-- The terms that have a number, as one.
use Rattle.std.proofs.Common.{ℕ, List, map, sym, ap, ◌∙◌, arith}
use Rattle.sk_dict.specs.Terms.{term_at}
use Rattle.sk_query.specs.Trees.{query_view}
use Rattle.sk_query.specs.Fits.{are_different}
use Rattle.sk_model.specs.Bounds.{lengths_of}
use Rattle.sk_model.specs.Edits.{document_at}
use Rattle.sk_nodes.specs.Shapes.{shape_of}
use Rattle.sk_tree.specs.Opened.{score_of, synonym_of}
use Rattle.sk_tree.proofs.SynonymLaws.{numbered_apart, numbered_score, numbered_readings, synonym_apart, synonym_at_most, query_capped}
use Rattle.sk_tree.proofs.NestLaws.{other_opens, numbered_entered}
use Rattle.sk_tree.proofs.synonym.open_synonym.Goals as goal

pub open_joint-requires-clause-apart : goal.open_joint-requires-clause-apart
open_joint-requires-clause-apart g c =
    let i = c.args.index.now in
    ap (λ (ns : List ℕ). are_different (map (term_at i.terms) ns)) c.as_slice.ensures.value ∙ ap are_different c.in_ok-numbers.ensures.terms
    ∙ numbered_apart i c.args.words.now (synonym_apart c.args.factor (query_view c.args.query.now) c.args.words.now c.requires.is c.requires.part.sound)

pub returns-clause-opens : goal.returns-clause-opens
returns-clause-opens g c =
    let i = c.args.index.now in
    let query = query_view c.args.query.now in
    query_capped i c.in_ok-top.top c.capped.result (shape_of c.in_ok-top.node) query (score_of (synonym_of i c.as_slice.result.now) c.args.scheme c.args.factor) c.args.scheme c.args.factor _ c.ceil-bound.result c.capped.ensures.head c.capped.ensures.weight c.capped.ensures.greatest
    c.ceil-bound.ensures c.in_ok-top.ensures.opens
    (λ id. numbered_score i c.in_ok-numbers.ensures.complete c.args.words.now _ c.args.scheme c.args.factor id (ap (λ (ns : List ℕ). map (term_at i.terms) ns) c.as_slice.ensures.value ∙ c.in_ok-numbers.ensures.terms)
    ∙ ap (λ q. score_of q c.args.scheme c.args.factor (document_at id i.live.documents)) (sym c.requires.is))
    (synonym_at_most i query c.args.words.now c.args.scheme c.args.factor c.requires.is c.requires.part.sound c.requires.can.light)

pub returns-clause-pays : goal.returns-clause-pays
returns-clause-pays g c =
    let i = c.args.index.now in
    let same = ap (λ (ns : List ℕ). lengths_of (map (term_at i.terms) ns) i.live.documents) c.as_slice.ensures.value in
    let pays = c.in_ok-top.ensures.pays in
    record {
      paid = pays.paid;
      within = omega (arith, same, ap (λ ts. lengths_of ts i.live.documents) c.in_ok-numbers.ensures.terms, numbered_readings i c.args.words.now, pays.within);
      room = pays.room;
    }

pub returns-clause-flat : goal.returns-clause-flat
returns-clause-flat g c =
    let i = c.args.index.now in
    let named = ap (λ (ns : List ℕ). map (term_at i.terms) ns) c.as_slice.ensures.value ∙ c.in_ok-numbers.ensures.terms in
    other_opens i (shape_of c.in_ok-top.node) _ c.args.words.now _ _
    (λ point. numbered_entered i _ c.args.words.now point named) c.in_ok-top.ensures.flat

pub open_joint-requires-clause-can : goal.open_joint-requires-clause-can
open_joint-requires-clause-can g c = c.requires.can

pub returns-in_err-top-clause-counts : goal.returns-in_err-top-clause-counts
returns-in_err-top-clause-counts g c = c.open_joint.ensures.counts

pub returns-clause-counts : goal.returns-clause-counts
returns-clause-counts g c = c.open_joint.ensures.counts
