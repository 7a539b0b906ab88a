-- What a tally knows of the values that it saw.
use Rattle.std.specs.Prelude.{◌≡◌, ◌<◌, ℕ, ◌+◌, ◌^◌, ◌∷◌, ◌++◌, Bool, List, length, map, take, IsPermutation}
use Rattle.std.specs.Global.{Global}
use Rattle.std.specs.declared.vec.Vec.{Vec}
use Rattle.std.specs.List.Sorted.{IsSortedBy, IsSplitAroundBy}
use Rattle.sk_base.specs.declared.facets.Facet.{Facet}
use Rattle.sk_model.specs.Counting.{is_first}
use Rattle.sk_model.specs.Facets.{number_without, AreCounted}
use Rattle.sk_model.specs.Laws.{AreTallied}
use Rattle.sk_facets.specs.declared.tally.Tally.{Tally}

-- A value, and how often it was seen.
abbrev pub Entry : Type 0
Entry = Vec ℕ Global × ℕ

abbrev pub facet_in : Entry → Facet
facet_in entry = record { value = entry.0.items; count = entry.1 }

abbrev pub facets_in : List Entry → List Facet
facets_in entries = map facet_in entries

-- The first stands before the second.
abbrev pub is_before : Entry → Entry → Bool
is_before a b = is_first (facet_in a) (facet_in b)

-- Those that were chosen are as many of them as are wanted, and none of the others stands before one of these.
pub record AreChosen (entries chosen : List Entry) (wanted : ℕ) : Type 0 where
  pub next : Entry
  pub others : List Entry
  pub same : IsPermutation entries (chosen ++ next ∷ others)
  pub split : IsSplitAroundBy is_before chosen next others
  pub many : length chosen ≡ wanted

-- They in order, as they are told.
pub record AreOrdered (entries : List Entry) (told : List Facet) : Type 0 where
  pub ordered : List Entry
  pub same : IsPermutation entries ordered
  pub sorted : IsSortedBy is_before ordered
  pub copies : told ≡ facets_in ordered

-- Of all that is counted of these values, the first so many are told, and how many there are.
pub record AreFirst (values : List (List ℕ)) (size : ℕ) (told : List Facet) (number : ℕ) : Type 0 where
  pub all : List Facet
  pub counted : AreCounted values all
  pub first : told ≡ take size all
  pub distinct : number ≡ length all

-- It saw just these values: each that is not empty is counted, and so are the empty ones, and all.
pub record Knows (tally : Tally) (values : List (List ℕ)) : Type 0 where
  pub counts : AreTallied values (facets_in tally.counts.entries)
  pub without : tally.without ≡ number_without values
  pub matches : tally.matches ≡ length values

-- It saw some values.
abbrev pub IsTally : Tally → Type 0
IsTally tally = (values : List (List ℕ)) × Knows tally values

-- Some values are counted so, and one more can be.
abbrev pub HasRoom : List Entry → Type 0
HasRoom entries = (values : List (List ℕ)) × (length values + 1 < 2 ^ 32) × AreTallied values (facets_in entries)
