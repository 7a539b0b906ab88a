-- Behind what was there stand the ids of the entries passed.
use Rattle.std.proofs.Common.{◌≡◌, ◌++◌, take}
use Rattle.sk_sorted.specs.Entries.{ids_of}
use Rattle.sk_chunks.proofs.chunk.Chunk.put_ids.Given as goal

abbrev pub invariant-entries : goal.invariant-entries
invariant-entries l = l.ids.items ≡ l.initial.ids.items ++ ids_of (take l.entry-index l.entry-items)
