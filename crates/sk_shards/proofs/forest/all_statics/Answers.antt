use Rattle.std.proofs.Common.{◌<◌, ◌^◌, ℕ, length, ap, subst, arith}
use Rattle.std.proofs.lemmas.List.{length-map}
use Rattle.std.proofs.lemmas.List.Sums.{sum_by-drop_more}
use Rattle.sk_sorted.specs.Entries.{AreSorted}
use Rattle.sk_sorted.proofs.EntryLaws.{length_fits}
use Rattle.sk_query.specs.Trees.{Tree, query_view}
use Rattle.sk_model.specs.Bounds.{static_count}
use Rattle.sk_model.proofs.StaticLaws.{static_live}
use Rattle.sk_index.specs.Indexed.{Indexed, all_postings}
use Rattle.sk_shards.proofs.forest.all_statics.Goals as goal

-- no more match than there are
few : (i : Indexed) (query : Tree) → AreSorted (all_postings i.live.documents) → static_count query i.live.documents < 2 ^ 32
few i query sorted =
    let live = static_live i.live.documents query in
    let fits = length_fits (all_postings i.live.documents) sorted in
    let same = length-map {B = ℕ × ℕ} i.live.documents (λ one. (one.0, 0)) in
    omega (arith, live, fits, same)

pub overflow_add-sum : goal.overflow_add-sum
overflow_add-sum c =
    let own = few c.index-item.result (query_view c.args.query.now) (subst AreSorted c.all.ensures.entries c.length-few.ensures.sound) in
    omega (arith, own, c.indexes.invariant.1, c.static_count-sum.ensures, c.requires.few)

pub indexes-preserved : goal.indexes-preserved
indexes-preserved c =
    let l : c.indexes.index-index < length c.args.indexes.now = omega arith in
    let own = few c.index-item.result (query_view c.args.query.now) (subst AreSorted c.all.ensures.entries c.length-few.ensures.sound) in
    let more = sum_by-drop_more (λ (i : Indexed). static_count (query_view c.args.query.now) i.live.documents) c.args.indexes.now c.indexes.index-index c.index-item.result l in
    let is = ap (λ (i : Indexed). static_count (query_view c.args.query.now) i.live.documents) c.index-item.is in
    (omega (arith, more, is, c.indexes.invariant.0, c.static_count-sum.ensures), omega (arith, own, c.indexes.invariant.1, c.static_count-sum.ensures))
