use Rattle.std.proofs.Common.{◌≡◌, take}
use Rattle.sk_chunks.proofs.chunk.copies_of.Given as goal

abbrev pub invariant-entries : goal.invariant-entries
invariant-entries l = l.copies.items ≡ take l.entry-index l.entries
