-- What stands before the place is below the id, and what stands there is not.
use Rattle.sk_sorted.proofs.ReachLaws.{entries_rise}
use Rattle.sk_pieces.proofs.PlaceLemmas.{from_reached}
use Rattle.sk_pieces.proofs.place.place_from.Goals as goal

pub first_reaching-requires-clause-rise : goal.first_reaching-requires-clause-rise
first_reaching-requires-clause-rise g c = entries_rise 0 c.args.entries.now c.requires

pub returns-clause-left : goal.returns-clause-left
returns-clause-left g c = from_reached c.args.id c.args.entries.now c.first_reaching.result c.first_reaching.ensures.bound.1 c.first_reaching.ensures.before c.first_reaching.ensures.reaches
