-- How the mentions of a record are gathered, word by word.
use Rattle.std.specs.Prelude.{◌<◌, ◌≤◌, ◌+◌, ◌*◌, ℕ, nat_le, Bool, List, [], ◌∷◌, ◌++◌, length, map, filter, All, AllPairs, Option, Some, None, if◌then◌else◌}
use Rattle.sk_text.specs.declared.word.Word.{Word}
use Rattle.sk_base.specs.declared.record.Entry.{Entry}
use Rattle.sk_base.specs.declared.record.FieldValue.{FieldValue}
use Rattle.sk_base.specs.declared.doc_entry.DocTerm.{DocTerm}
use Rattle.sk_base.specs.Loads.{load_of}
use Rattle.sk_base.specs.Records.{bytes_of_value, most_bytes}
use Rattle.sk_model.specs.Documents.{Occurrence, occurrence, is_indexed, mentions_from}
use Rattle.sk_docs.specs.Joined.{LieBefore}

-- What was gathered: the mentions, which indexed word of the record comes next, from 1, and whether the stems of words are asked for.
pub record Gathered : Type 0 where
  pub mentions : List DocTerm
  pub next : ℕ
  pub stems : Bool

-- What is gathered with these occurrences more.
abbrev pub after : Gathered → List Occurrence → Gathered
after g os = record { mentions = g.mentions ++ mentions_from g.stems g.next os; next = g.next + length os; stems = g.stems }

-- All places are less than this one.
abbrev pub LieBelow : ℕ → List DocTerm → Type 0
LieBelow bound mentions = All (λ m. All (λ p. p < bound) m.positions) mentions

-- Words more can be gathered from a field behind so many text fields, two of these for each: each has a place behind all others, and no sum is too great.
-- A text has half as many words as bytes, and one more at most; each adds its step, of 256 at most, to its own wdf and to that of its stem.
pub record CanGather (g : Gathered) (before more : ℕ) : Type 0 where
  pub loads : load_of g.mentions + 512 ≤ 512 * g.next
  pub rise : AllPairs LieBefore g.mentions
  pub places : LieBelow (g.next + 100 * before) g.mentions
  pub few : 2 * g.next + more ≤ most_bytes + before + 3
  pub fields : before ≤ 64

-- The occurrences in these words.
abbrev pub occurrences_among : List ℕ → ℕ → ℕ → List Word → List Occurrence
occurrences_among prefix step before words = map (occurrence prefix step before) (filter is_indexed words)

-- How many bytes the texts of a value have, if there is one.
abbrev pub bytes_of_given : Option FieldValue → ℕ
bytes_of_given None = 0
bytes_of_given (Some value) = bytes_of_value value

-- How many bytes the texts of the entries from this place on have.
abbrev pub bytes_from : ℕ → List Entry → ℕ
bytes_from place [] = 0
bytes_from place (entry ∷ entries) = (if nat_le place entry.field then bytes_of_value entry.value else 0) + bytes_from place entries
