use Rattle.sk_model.proofs.CoverLaws.{covers_itself, covers_weaker, covers_then, covers_exactly}
use Rattle.sk_model.proofs.covers.covers_follow.Goals as goal

pub returns-clause-itself : goal.returns-clause-itself
returns-clause-itself c old need id = covers_itself (old id) need

pub returns-clause-weaker : goal.returns-clause-weaker
returns-clause-weaker c old new m n le h id = covers_weaker (old id) (new id) m n le (h id)

pub returns-clause-then : goal.returns-clause-then
returns-clause-then c old new last m n le h g id = covers_then (old id) (new id) (last id) m n le (h id) (g id)

pub returns-clause-exact : goal.returns-clause-exact
returns-clause-exact c old new h id = covers_exactly (old id) (new id) (h id)
