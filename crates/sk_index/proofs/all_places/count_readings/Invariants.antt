use Rattle.std.proofs.Common.{◌≡◌, ◌+◌}
use Rattle.sk_index.proofs.all_places.count_readings.Given as goal

abbrev pub invariant-numbers : goal.invariant-numbers
invariant-numbers g l = l.steps ≡ l.fn.steps + l.counter
