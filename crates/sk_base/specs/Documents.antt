-- What a document is: terms, values and a payload, and how they are looked up.
use Rattle.std.specs.Prelude.{◌<◌, ℕ, Bool, List, [], ◌∷◌, length, All, AllPairs, bytes_eq, nat_eq, ◌==◌, if◌then◌else◌}
use Rattle.std.specs.List.{list_any, starts_with}
use Rattle.sk_base.specs.Order.{Precedes}
use Rattle.sk_base.specs.declared.doc_entry.DocTerm.{DocTerm}
use Rattle.sk_base.specs.declared.doc_entry.SlotValue.{SlotValue}

-- The terms of a document, in byte order, each once.
abbrev pub AreTerms : List DocTerm → Type 0
AreTerms terms = AllPairs (λ s t. Precedes s.term t.term) terms

-- The values of a document, by rising slot, none of them empty.
pub record AreValues (values : List SlotValue) : Type 0 where
  pub rising : AllPairs (λ v w. v.slot < w.slot) values
  pub some : All (λ v. 0 < length v.value) values

-- Whether the term is there.
abbrev pub has_term : List ℕ → List DocTerm → Bool
has_term t terms = list_any (λ one. bytes_eq one.term t) terms

-- The wdf of a term, and 0 where it is not there.
abbrev pub wdf_of : List ℕ → List DocTerm → ℕ
wdf_of t [] = 0
wdf_of t (one ∷ more) = if bytes_eq one.term t then one.wdf else wdf_of t more

-- The places of a term, and none where it is not there.
abbrev pub positions_of : List ℕ → List DocTerm → List ℕ
positions_of t [] = []
positions_of t (one ∷ more) = if bytes_eq one.term t then one.positions else positions_of t more

-- The term begins with the prefix.
abbrev pub begins_with : List ℕ → List ℕ → Bool
begins_with t prefix = starts_with nat_eq t prefix

-- The value in a slot, and the empty one where there is none.
abbrev pub value_in : ℕ → List SlotValue → List ℕ
value_in slot [] = []
value_in slot (one ∷ more) = if one.slot == slot then one.value else value_in slot more

-- Whether there is a value in the slot.
abbrev pub has_value : ℕ → List SlotValue → Bool
has_value slot values = list_any (λ one. one.slot == slot) values
