use Rattle.std.proofs.Common.{◌≡◌, ◌+◌}
use Rattle.sk_reference.proofs.store.count.Given as goal

-- one step for each so far
abbrev pub invariant-all : goal.invariant-all
invariant-all g l = l.steps ≡ l.fn.steps + l.counter
