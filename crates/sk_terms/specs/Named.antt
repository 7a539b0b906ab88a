-- Numbered terms with the texts that a dictionary has for their numbers.
use Rattle.std.specs.Prelude.{◌≡◌, ◌<◌, ◌≤◌, ℕ, List, length, map}
use Rattle.sk_base.specs.declared.doc_entry.DocTerm.{DocTerm}
use Rattle.sk_dict.specs.Terms.{term_at}
use Rattle.sk_packed.specs.Packed.{NumberedTerm}

-- A term with the text that the dictionary has for its number.
abbrev pub with_its_text : List (List ℕ) → NumberedTerm → DocTerm
with_its_text dict one = record { term = term_at dict one.number; wdf = one.wdf; positions = one.positions }

-- The same of several.
abbrev pub named_all : List (List ℕ) → List NumberedTerm → List DocTerm
named_all dict terms = map (with_its_text dict) terms

-- Terms came at the end of a dictionary: each number that had a term has it still.
pub record Grows (old new : List (List ℕ)) : Type 0 where
  pub longer : length old ≤ length new
  pub same : (n : ℕ) → n < length old → term_at new n ≡ term_at old n
