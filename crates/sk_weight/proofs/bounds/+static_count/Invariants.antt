use Rattle.std.proofs.Common.{◌≡◌, drop}
use Rattle.sk_query.specs.Trees.{queries_view}
use Rattle.sk_model.specs.Bounds.{statics}
use Rattle.sk_weight.specs.Together.{nothing_yet, with_bounds}
use Rattle.sk_weight.proofs.bounds.+static_count.Given as goal

-- with the counts of the parts that are left it is made of all
abbrev pub invariant-statics-parts : goal.invariant-statics-parts
invariant-statics-parts g l =
    with_bounds l.counts (statics (queries_view (drop l.part-index l.parts)) (g.S.Stats.documents l.stats)) ≡ with_bounds nothing_yet (statics (queries_view l.parts) (g.S.Stats.documents l.stats))
