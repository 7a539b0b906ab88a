use Rattle.std.proofs.Common.{◌≡◌, map, take}
use Rattle.sk_sorted.specs.Runs.{flat}
use Rattle.example_index.specs.Example.{hit_of}
use Rattle.example_index.proofs.hits_of.Given as goal

abbrev pub invariant-chunks : goal.invariant-chunks
invariant-chunks g l = l.hits.items ≡ map hit_of (flat (take l.at l.list))
