use Rattle.std.proofs.Common.{◌≡◌, take}
use Rattle.sk_lists.proofs.directory.copies_of.Given as goal

abbrev pub invariant-chunks : goal.invariant-chunks
invariant-chunks l = l.copies.items ≡ take l.chunk-index l.chunks
