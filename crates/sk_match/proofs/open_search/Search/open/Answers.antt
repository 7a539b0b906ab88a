use Rattle.std.proofs.Common.{refl, arith}
use Rattle.sk_query.specs.Trees.{query_view}
use Rattle.sk_page.proofs.SpentLaws.{ups_none}
use Rattle.sk_match.proofs.TurnLemmas.{opened}
use Rattle.sk_match.proofs.open_search.Search.open.Goals as goal

pub returns-clause-stands : goal.returns-clause-stands
returns-clause-stands g c =
    opened c.args.index.now _ c.args.paging.now (query_view c.args.query.now) c.requires.fits c.in_ok-tree.ensures.built c.in_ok-tree.ensures.left c.in_ok-tree.ensures.need refl c.in_ok-page.ensures
    (λ j. record { greatest = c.ceil.ensures j; most = c.static_count.ensures j })
    c.in_ok-tree.ensures.stops c.in_ok-tree.ensures.rare c.in_ok-tree.ensures.decays

pub returns-clause-one_each : goal.returns-clause-one_each
returns-clause-one_each g c lists flat =
    let paid = (c.in_ok-tree.ensures.stops lists flat 0).account in
    omega (arith, paid, ups_none lists c.args.index.now.live.documents c.in_ok-tree.ensures.built.tree.documents.rise, c.in_ok-page.ensures.read)
