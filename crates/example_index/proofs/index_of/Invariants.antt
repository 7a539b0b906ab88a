use Rattle.std.proofs.Common.{◌≡◌}
use Rattle.example_index.specs.Example.{bodies}
use Rattle.example_index.proofs.index_of.Given as goal

abbrev pub invariant-texts : goal.invariant-texts
invariant-texts l = l.index.schema ≡ bodies
