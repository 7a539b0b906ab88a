-- Where a term stands among the terms of a document.
use Rattle.std.specs.Prelude.{ℕ, ◌<◌, ◌≤◌, List, length, slice_index_or}
use Rattle.sk_base.specs.declared.doc_entry.DocTerm.{DocTerm}
use Rattle.sk_base.specs.Order.{Precedes}

-- The terms at the places below `low` stand before the term, and those from the place `high` on do not.
pub record IsBetween (t : List ℕ) (terms : List DocTerm) (low high : ℕ) : Type 0 where
  pub some : low ≤ high
  pub within : high ≤ length terms
  pub before : (k : ℕ) (d : DocTerm) → k < low → Precedes (slice_index_or terms k d).term t
  pub behind : (k : ℕ) (d : DocTerm) → high ≤ k → k < length terms → Precedes (slice_index_or terms k d).term t → ⊥
