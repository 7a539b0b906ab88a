-- All terms that begin so, as one.
use Rattle.std.proofs.Common.{◌≡◌, ℕ, List, true, map, sym, subst, ap, ◌∙◌, arith}
use Rattle.sk_dict.specs.Terms.{term_at}
use Rattle.sk_query.specs.Trees as Query
use Rattle.sk_query.specs.Trees.{query_view}
use Rattle.sk_query.specs.Fits.{are_different}
use Rattle.sk_model.specs.Bounds.{lengths_of}
use Rattle.sk_model.specs.Edits.{document_at}
use Rattle.sk_index.specs.Indexed.{AreAllWith}
use Rattle.sk_nodes.specs.Proximity.{AreThere}
use Rattle.sk_nodes.specs.Shapes.{shape_of}
use Rattle.sk_base.specs.Numbers.{terms_with}
use Rattle.sk_tree.specs.Opened.{score_of, synonym_of}
use Rattle.sk_tree.proofs.SynonymLaws.{wild_there, wild_apart, wild_score, wild_readings, wild_at_most, query_capped}
use Rattle.sk_tree.proofs.NestLaws.{other_opens, wild_entered}
use Rattle.sk_tree.proofs.synonym.open_wildcard.Goals as goal

pub open_joint-requires-clause-there : goal.open_joint-requires-clause-there
open_joint-requires-clause-there g c = subst (λ (ns : List ℕ). AreThere c.args.index.now ns) (sym c.as_slice.ensures.value) (wild_there c.args.index.now c.in_ok-numbers.numbers.items c.in_ok-numbers.ensures.there)

pub open_joint-requires-clause-apart : goal.open_joint-requires-clause-apart
open_joint-requires-clause-apart g c =
    subst (λ (ns : List ℕ). are_different (map (term_at c.args.index.now.terms) ns) ≡ true) (sym c.as_slice.ensures.value)
    (wild_apart (term_at c.args.index.now.terms) c.in_ok-numbers.numbers.items c.in_ok-numbers.ensures.rising)

pub returns-clause-opens : goal.returns-clause-opens
returns-clause-opens g c =
    let i = c.args.index.now in
    let ns = c.in_ok-numbers.numbers.items in
    let query = query_view c.args.query.now in
    let bytes = c.as_bytes.ensures.value ∙ c.as_str.ensures in
    let are = subst (λ (t : List ℕ). AreAllWith t i.terms i.live.documents ns) bytes c.in_ok-numbers.ensures in
    query_capped i c.in_ok-top.top c.capped.result (shape_of c.in_ok-top.node) query (score_of (synonym_of i c.as_slice.result.now) c.args.scheme c.args.factor) c.args.scheme c.args.factor _ c.ceil-bound.result c.capped.ensures.head c.capped.ensures.weight c.capped.ensures.greatest
    c.ceil-bound.ensures c.in_ok-top.ensures.opens
    (λ id. ap (λ (ms : List ℕ). score_of (Query.synonym (map (term_at i.terms) ms)) c.args.scheme c.args.factor (document_at id i.live.documents)) c.as_slice.ensures.value
    ∙ wild_score i c.args.prefix.now ns are c.args.scheme c.args.factor id ∙ ap (λ q. score_of q c.args.scheme c.args.factor (document_at id i.live.documents)) (sym c.requires.is))
    (wild_at_most i query c.args.prefix.now ns c.args.scheme c.args.factor c.requires.is are c.requires.can.light)

pub returns-clause-pays : goal.returns-clause-pays
returns-clause-pays g c =
    let i = c.args.index.now in
    let ns = c.in_ok-numbers.numbers.items in
    let bytes = c.as_bytes.ensures.value ∙ c.as_str.ensures in
    let are = subst (λ (t : List ℕ). AreAllWith t i.terms i.live.documents ns) bytes c.in_ok-numbers.ensures in
    let same = ap (λ (ms : List ℕ). lengths_of (map (term_at i.terms) ms) i.live.documents) c.as_slice.ensures.value in
    let pays = c.in_ok-top.ensures.pays in
    record { paid = pays.paid; within = omega (arith, same, wild_readings i c.args.prefix.now ns are, pays.within); room = pays.room }

pub returns-clause-flat : goal.returns-clause-flat
returns-clause-flat g c =
    let i = c.args.index.now in
    let ns = c.in_ok-numbers.numbers.items in
    let bytes = c.as_bytes.ensures.value ∙ c.as_str.ensures in
    let are = subst (λ (t : List ℕ). AreAllWith t i.terms i.live.documents ns) bytes c.in_ok-numbers.ensures in
    other_opens i (shape_of c.in_ok-top.node) _ (terms_with c.args.prefix.now i.live.documents) _ _
    (λ point. wild_entered i c.args.prefix.now ns _ are point c.as_slice.ensures.value) c.in_ok-top.ensures.flat

pub open_joint-requires-clause-can : goal.open_joint-requires-clause-can
open_joint-requires-clause-can g c = c.requires.can

pub returns-in_err-top-clause-counts : goal.returns-in_err-top-clause-counts
returns-in_err-top-clause-counts g c = c.open_joint.ensures.counts

pub returns-clause-counts : goal.returns-clause-counts
returns-clause-counts g c = c.open_joint.ensures.counts
