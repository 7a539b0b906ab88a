use Rattle.std.proofs.Common.{◌≡◌, ◌++◌, map, take}
use Rattle.example_index.specs.Example.{hit_of}
use Rattle.example_index.proofs.with_chunk.Given as goal

abbrev pub invariant-entries : goal.invariant-entries
invariant-entries g l = l.hits.items ≡ l.initial.hits.items ++ map hit_of (take l.at l.chunk)
