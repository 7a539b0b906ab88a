use Rattle.sk_query.specs.Trees.{query_view}
use Rattle.std.proofs.Common.{refl, rules}
use Rattle.sk_shards.proofs.OpenLemmas.{opened}
use Rattle.sk_shards.proofs.forest.Forest.open.Goals as goal

pub returns-clause-stands : goal.returns-clause-stands
returns-clause-stands g c =
    opened c.args.indexes.now _ c.args.paging.now (query_view c.args.query.now) c.requires.turns c.requires.terms c.requires.fits c.in_ok-trees.ensures.opened refl c.in_ok-page.ensures
    (search rules) (λ j. record { greatest = c.greatest_ceil.ensures j; most = c.all_statics.ensures.value j })
