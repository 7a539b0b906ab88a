-- The greatest so far, and of what is left, is that of the whole.
use Rattle.std.proofs.Common.{◌≡◌, drop, max}
use Rattle.sk_sorted.specs.Runs.{flat}
use Rattle.sk_chunks.specs.Postings.{greatest_wdf}
use Rattle.sk_lists.proofs.directory.greatest_of.Given as goal

abbrev pub invariant-chunks : goal.invariant-chunks
invariant-chunks l = max l.most (greatest_wdf (flat (drop l.chunk-index l.chunks))) ≡ greatest_wdf (flat l.chunks)
