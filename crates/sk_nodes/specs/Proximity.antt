-- Terms that have to stand near, or as a phrase.
use Rattle.std.specs.Prelude.{◌≡◌, ◌≤◌, ◌<◌, ◌+◌, ℕ, Bool, true, List, [], ◌∷◌, length, map}
use Rattle.sk_sorted.specs.Entries.{AreSorted, from, has}
use Rattle.sk_dict.specs.Terms.{term_at}
use Rattle.sk_model.specs.Edits.{document_at}
use Rattle.sk_model.specs.Positions.{is_near, is_phrase}
use Rattle.sk_index.specs.Indexed.{Indexed, term_positions}
use Rattle.sk_nodes.specs.declared.proximity.ProximityKind.{ProximityKind}
use Rattle.sk_nodes.specs.declared.proximity.Proximity.{Proximity}
use Rattle.sk_nodes.specs.declared.leaf.ListOf.{ListOf}
use Rattle.sk_nodes.specs.Leaves.{list_in}
use Rattle.sk_nodes.specs.Repeats.{HaveSame, AreRunEnds}

-- Whether these positions stand so.
abbrev pub stand : ProximityKind → ℕ → List (List ℕ) → Bool
stand ProximityKind.Near window places = is_near window places
stand ProximityKind.Phrase window places = is_phrase window places

-- The positions of the terms with these numbers in a document.
abbrev pub positions_in : Indexed → List ℕ → ℕ → List (List ℕ)
positions_in i ns id = map (λ n. term_positions (term_at i.terms n) (document_at id i.live.documents)) ns

-- Whether the terms stand so in a document.
abbrev pub holds_in : Indexed → Proximity → ℕ → Bool
holds_in i p id = stand p.kind p.window (positions_in i p.numbers.items id)

-- How many entries the lists of these terms have from an id on.
abbrev pub entries_unread : Indexed → ℕ → List ℕ → ℕ
entries_unread i next [] = 0
entries_unread i next (n ∷ ns) = length (from next (list_in i (ListOf.Term n))) + entries_unread i next ns

-- The numbers were given for terms.
abbrev pub AreThere : Indexed → List ℕ → Type 0
AreThere i [] = Unit {0}
AreThere i (n ∷ ns) = (n < length i.terms) × AreThere i ns

-- The lists of these terms are in order.
abbrev pub AreInOrder : Indexed → List ℕ → Type 0
AreInOrder i [] = Unit {0}
AreInOrder i (n ∷ ns) = AreSorted (list_in i (ListOf.Term n)) × AreInOrder i ns

-- The document is in the lists of all these terms.
abbrev pub IsInAll : Indexed → ℕ → List ℕ → Type 0
IsInAll i id [] = Unit {0}
IsInAll i id (n ∷ ns) = (has id (list_in i (ListOf.Term n)) ≡ true) × IsInAll i id ns

-- Of two terms or more this is one that has another behind it.
abbrev pub IsFollowed : ℕ → List ℕ → Type 0
IsFollowed at ns = 2 ≤ length ns → at + 1 < length ns

-- Documents can be tested.
pub record CanTest (i : Indexed) (p : Proximity) : Type 0 where
  pub some : 1 ≤ length p.numbers.items
  pub wide : 1 ≤ p.window
  pub marks : length p.numbers.items ≤ length p.marks.items
  pub places : length p.numbers.items ≤ length p.places.items
  pub there : AreThere i p.numbers.items
  pub sorted : AreInOrder i p.numbers.items
  pub once : HaveSame p.numbers.items p.once.items
  pub ends : AreRunEnds p.ends.items p.numbers.items
  pub pair : IsFollowed p.pair p.numbers.items

-- The test is the same.
pub record IsSameTest (old new : Proximity) : Type 0 where
  pub kind : new.kind ≡ old.kind
  pub window : new.window ≡ old.window
  pub numbers : new.numbers.items ≡ old.numbers.items
  pub once : new.once.items ≡ old.once.items
  pub ends : new.ends.items ≡ old.ends.items
  pub pair : new.pair ≡ old.pair
  pub marks : length new.marks.items ≡ length old.marks.items
  pub places : length new.places.items ≡ length old.places.items

-- A test of terms with these numbers, before its first document.
pub record IsTestOf (k : ProximityKind) (w : ℕ) (ns : List ℕ) (p : Proximity) : Type 0 where
  pub kind : p.kind ≡ k
  pub window : p.window ≡ w
  pub numbers : p.numbers.items ≡ ns
  pub once : HaveSame ns p.once.items
  pub ends : AreRunEnds p.ends.items ns
  pub pair : IsFollowed p.pair ns
  pub marks : length ns ≤ length p.marks.items
  pub places : length ns ≤ length p.places.items
  pub next : p.next ≡ 0
