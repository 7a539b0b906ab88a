-- Entries that stand in several parts, as one list.
-- Source: Xapian's `Database::add_database`, which interleaves the ids of its parts.
use Rattle.std.specs.Prelude.{◌≡◌, ◌≤◌, ◌==◌, None, if◌then◌else◌, ℕ, zero, suc, ◌+◌, ◌-◌, ◌*◌, ◌/◌, ◌%◌, List, [], ◌∷◌, length, slice_index_or, Option, Some}
use Rattle.std.specs.List.{filter_map, AllByRecursion}
use Rattle.std.specs.Option.{option_map}
use Rattle.sk_sorted.specs.Entries.{RiseAbove, put, first_id}

-- The joined id of what stands in a part under its own id: the parts take turns.
abbrev pub joined_id : ℕ → ℕ → ℕ → ℕ
joined_id n part own = (own - 1) * n + part + 1

-- The part that a joined id stands in.
abbrev pub part_of : ℕ → ℕ → ℕ
part_of n id = (id - 1) % n

-- The own id that it has there.
abbrev pub own_id : ℕ → ℕ → ℕ
own_id n id = (id - 1) / n + 1

-- The entries of a part, under their joined ids.
abbrev pub under : {X : Type 0} → ℕ → ℕ → List (ℕ × X) → List (ℕ × X)
under n part [] = []
under n part (e ∷ es) = (joined_id n part e.0, e.1) ∷ under n part es

-- All of the first put into the second.
abbrev pub put_all : {X : Type 0} → List (ℕ × X) → List (ℕ × X) → List (ℕ × X)
put_all [] fs = fs
put_all (e ∷ es) fs = put e.0 e.1 (put_all es fs)

-- The parts from this one on.
abbrev pub joined_from : {X : Type 0} → ℕ → ℕ → List (List (ℕ × X)) → List (ℕ × X)
joined_from n part [] = []
joined_from n part (es ∷ parts) = put_all (under n part es) (joined_from n (part + 1) parts)

-- All parts as one list.
abbrev pub joined : {X : Type 0} → List (List (ℕ × X)) → List (ℕ × X)
joined parts = joined_from (length parts) 0 parts

-- The part with this number.
abbrev pub part_at : {X : Type 0} → List (List (ℕ × X)) → ℕ → List (ℕ × X)
part_at parts part = slice_index_or parts part []

-- Each part rises from 1.
abbrev pub AllRise : {X : Type 0} → List (List (ℕ × X)) → Type 0
AllRise parts = AllByRecursion (RiseAbove 0) parts

-- What is given of each entry.
abbrev pub given : {X Y : Type 0} → (ℕ → Option Y) → List (ℕ × X) → List (ℕ × Y)
given give es = filter_map (λ e. option_map (λ y. (e.0, y)) (give e.0)) es

-- What is given of each entry of some parts, by a function for each part.
abbrev pub given_each : {X Y : Type 0} → List (ℕ → Option Y) → List (List (ℕ × X)) → List (List (ℕ × Y))
given_each [] parts = []
given_each (give ∷ gives) [] = []
given_each (give ∷ gives) (es ∷ parts) = given give es ∷ given_each gives parts

-- What is given of a part under an own id.
abbrev pub give_at : {Y : Type 0} → List (ℕ → Option Y) → ℕ → ℕ → Option Y
give_at [] part own = None
give_at (give ∷ gives) zero own = give own
give_at (give ∷ gives) (suc part) own = give_at gives part own

-- What is given of all under a joined id.
abbrev pub give_joined : {Y : Type 0} → ℕ → List (ℕ → Option Y) → ℕ → Option Y
give_joined n gives id = give_at gives (part_of n id) (own_id n id)

-- The first that is left of the parts is this one, of this part.
pub record IsLeast {X : Type 0} (rests : List (List (ℕ × X))) (part own : ℕ) : Type 0 where
  pub first : first_id (part_at rests part) ≡ Some own
  pub least : (q other : ℕ) → first_id (part_at rests q) ≡ Some other → joined_id (length rests) part own ≤ joined_id (length rests) q other

-- An entry that stands in this part, under its own id.
abbrev pub entry_in : {X : Type 0} → ℕ → ℕ → ℕ × X → Option (ℕ × X)
entry_in n part e = if part_of n e.0 == part then Some (own_id n e.0, e.1) else None

-- The entries of a part among all, under own ids.
abbrev pub part_in : {X : Type 0} → ℕ → ℕ → List (ℕ × X) → List (ℕ × X)
part_in n part es = filter_map (entry_in n part) es

-- So many parts of all, from one on.
abbrev pub parts_from : {X : Type 0} → ℕ → ℕ → ℕ → List (ℕ × X) → List (List (ℕ × X))
parts_from zero n part es = []
parts_from (suc more) n part es = part_in n part es ∷ parts_from more n (part + 1) es

-- All parts of all.
abbrev pub parts_in : {X : Type 0} → ℕ → List (ℕ × X) → List (List (ℕ × X))
parts_in n es = parts_from n n 0 es

-- How many own ids of a part have a joined id of at most this.
abbrev pub point_in : ℕ → ℕ → ℕ → ℕ
point_in n part id = (id + n - 1 - part) / n
