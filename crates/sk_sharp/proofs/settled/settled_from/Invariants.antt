use Rattle.std.proofs.Common.{◌≡◌, drop}
use Rattle.sk_model.specs.Settled.{settled_from}
use Rattle.sk_sharp.proofs.settled.settled_from.Given as goal

-- the matches that are left decide
abbrev pub invariant-ranks : goal.invariant-ranks
invariant-ranks l = settled_from l.wanted l.needed l.weight (drop l.rank-index l.ranks) ≡ settled_from l.fn.wanted l.fn.needed l.weight l.ranks
