-- Each entry read is counted once.
use Rattle.std.proofs.Common.{◌≡◌, ◌+◌}
use Rattle.try_libraries.proofs.steps.read.Given as goal

abbrev pub invariant-loop-entry : goal.invariant-loop-entry
invariant-loop-entry g l = l.steps ≡ l.initial.steps + l.entry-index
