-- Documents under one schema.
use Rattle.std.specs.Prelude.{ℕ, ◌+◌, ◌≤◌}
use Rattle.std.specs.List.{AllByRecursion}
use Rattle.sk_sorted.specs.Entries.{RiseAbove, LieBelow}
use Rattle.sk_base.specs.declared.schema.Schema.{Schema}
use Rattle.sk_base.specs.Documents.{AreTerms}
use Rattle.sk_base.specs.Loads.{IsLight}
use Rattle.sk_model.specs.Documents.{Document}
use Rattle.sk_model.specs.Edits.{Live, last_id}

-- The schema, the live documents, and what keeps them.
pub record Documented (K : Type 0) : Type 0 where
  pub schema : Schema
  pub live : Live
  pub keeper : K

-- The terms of a document, with its id, are in order.
abbrev pub HasTerms : ℕ × Document → Type 0
HasTerms one = AreTerms one.1.terms

-- The ids rise from 1, none is above the highest used, and that is no greater than an id may be; each document is in order and light.
pub record IsSoundLive (live : Live) : Type 0 where
  pub rise : RiseAbove 0 live.documents
  pub used : LieBelow (live.highest + 1) live.documents
  pub within : live.highest ≤ last_id
  pub terms : AllByRecursion HasTerms live.documents
  pub light : AllByRecursion IsLight live.documents
