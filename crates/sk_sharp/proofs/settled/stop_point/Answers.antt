-- No document weighs so much that one more does not fit.
use Rattle.sk_query.specs.Trees.{query_view}
use Rattle.sk_sharp.proofs.SharpLemmas.{one_more_fits}
use Rattle.sk_sharp.proofs.settled.stop_point.Goals as goal

pub settled-requires : goal.settled-requires
settled-requires c =
    one_more_fits (query_view c.args.query.now) c.args.paging.now.options.scheme _ c.args.docs.now.entries c.ceil.result c.ceil.ensures c.new.ensures
    c.requires.sound c.requires.leaves c.requires.light
