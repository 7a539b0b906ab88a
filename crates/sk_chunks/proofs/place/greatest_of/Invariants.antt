-- The greatest so far, and of what is left, is that of the whole.
use Rattle.std.proofs.Common.{◌≡◌, drop, max}
use Rattle.sk_chunks.specs.Postings.{greatest_wdf}
use Rattle.sk_chunks.proofs.place.greatest_of.Given as goal

abbrev pub invariant-entries : goal.invariant-entries
invariant-entries l = max l.most (greatest_wdf (drop l.entry-index l.entries)) ≡ greatest_wdf l.entries
