use Rattle.std.proofs.Common.{◌≡◌, ◌+◌}
use Rattle.sk_nodes.proofs.proximity.stand_near.Given as goal

abbrev pub invariant-again : goal.invariant-again
invariant-again g l = l.steps ≡ l.fn.steps + l.counter
