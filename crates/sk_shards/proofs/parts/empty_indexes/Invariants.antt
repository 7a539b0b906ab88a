use Rattle.std.proofs.Common.{◌≡◌, [], length, All}
use Rattle.sk_shards.proofs.parts.empty_indexes.Given as goal

-- so many so far, and none has a document
abbrev pub invariant-parts : goal.invariant-parts
invariant-parts l = (length l.indexes.items ≡ l.counter) × All (λ i. i.live.documents ≡ []) l.indexes.items
