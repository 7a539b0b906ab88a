-- The terms of a document as numbers.
use Rattle.std.specs.Prelude.{◌≡◌, ◌<◌, ◌≤◌, ◌+◌, ◌-◌, ◌*◌, ◌/◌, ◌%◌, ◌==◌, ◌&&◌, if◌then◌else◌, ltb, ℕ, Bool, true, List, [], ◌∷◌, ◌++◌, length, map, slice_range, slice_index, slice_index_or}
use Rattle.std.specs.List.{AllByRecursion, range_with_len}
use Rattle.sk_base.specs.Order.{ArePositions}
use Rattle.sk_packed.specs.declared.packed_terms.PackedTerm.{PackedTerm}

-- A term of a document: its number in a dictionary, its wdf, and its positions.
pub record NumberedTerm : Type 0 where
  pub number : ℕ
  pub wdf : ℕ
  pub positions : List ℕ

-- What stands for a term that is not there.
abbrev pub no_term : NumberedTerm
no_term = record { number = 0; wdf = 0; positions = [] }

-- The term at this place.
abbrev pub numbered_at : List NumberedTerm → ℕ → NumberedTerm
numbered_at terms i = slice_index_or terms i no_term

-- The positions of the term at this place, none behind the last.
abbrev pub positions_at_place : List NumberedTerm → ℕ → List ℕ
positions_at_place terms place = (numbered_at terms place).positions

-- The terms whose positions stand in one list: those of the first begin at the place `from`, of each other one where those of the one before end.
abbrev pub cut_positions : ℕ → List PackedTerm → List ℕ → List NumberedTerm
cut_positions from [] positions = []
cut_positions from (one ∷ more) positions = record { number = one.number; wdf = one.wdf; positions = slice_range positions from one.end } ∷ cut_positions one.end more positions

-- The ends do not fall, and go from the one number to the other.
abbrev pub RiseTo : ℕ → List PackedTerm → ℕ → Type 0
RiseTo from [] to = from ≡ to
RiseTo from (one ∷ more) to = (from ≤ one.end) × RiseTo one.end more to

-- The positions of each term rise.
abbrev pub ArePlaced : List NumberedTerm → Type 0
ArePlaced terms = AllByRecursion (λ one. ArePositions one.positions) terms

-- The terms fill the list of positions, and those of each rise.
pub record IsPacked (terms : List PackedTerm) (positions : List ℕ) : Type 0 where
  pub fill : RiseTo 0 terms (length positions)
  pub placed : ArePlaced (cut_positions 0 terms positions)

-- Each number is below the bound.
abbrev pub AreKnown : ℕ → List NumberedTerm → Type 0
AreKnown bound terms = AllByRecursion (λ one. one.number < bound) terms

-- Each wdf is the number of the term's positions.
abbrev pub are_plain : ℕ → List PackedTerm → Bool
are_plain from [] = true
are_plain from (one ∷ more) = (one.wdf == (one.end - from)) && are_plain one.end more

-- For each term where its positions begin, which stand from the place `first` on, and its number.
abbrev pub heads_of : ℕ → ℕ → List PackedTerm → List ℕ
heads_of first from [] = []
heads_of first from (one ∷ more) = (first + from) ∷ one.number ∷ heads_of first one.end more

abbrev pub wdfs_of : List PackedTerm → List ℕ
wdfs_of [] = []
wdfs_of (one ∷ more) = one.wdf ∷ wdfs_of more

-- The terms in one list of numbers: the heads and the positions.
abbrev pub plain_words : List PackedTerm → List ℕ → List ℕ
plain_words terms positions = heads_of (2 * length terms) 0 terms ++ positions

-- And with their wdfs: the heads, where the positions end, these, and the wdfs.
abbrev pub told_words : List PackedTerm → List ℕ → List ℕ
told_words terms positions = heads_of (2 * length terms + 1) 0 terms ++ ((2 * length terms + 1 + length positions) ∷ (positions ++ wdfs_of terms))

-- The wdfs are told if one of them is not the number of the term's positions.
abbrev pub words_of : List PackedTerm → List ℕ → List ℕ
words_of [] positions = []
words_of (one ∷ more) positions = if are_plain 0 (one ∷ more) then plain_words (one ∷ more) positions else told_words (one ∷ more) positions

-- How many terms the words have: half of where the positions begin, which is odd if the wdfs are told.
abbrev pub term_count : List ℕ → ℕ
term_count words = slice_index words 0 / 2

-- Where the positions of the i-th term begin, and where they end: where those of the next begin, or all end.
abbrev pub begin_at : List ℕ → ℕ → ℕ
begin_at words i = slice_index words (2 * i)

abbrev pub end_at : List ℕ → ℕ → ℕ
end_at words i = if ltb (2 * i + 2) (slice_index words 0) then slice_index words (2 * i + 2) else length words

-- Its wdf, which is told behind all positions or is the number of its own.
abbrev pub wdf_at : List ℕ → ℕ → ℕ
wdf_at words i = if (slice_index words 0 % 2) == 0 then end_at words i - begin_at words i else slice_index words (slice_index words (2 * term_count words) + i)

abbrev pub term_in : List ℕ → ℕ → NumberedTerm
term_in words i = record { number = slice_index words (2 * i + 1); wdf = wdf_at words i; positions = slice_range words (begin_at words i) (end_at words i) }

-- The terms that the words are.
abbrev pub frozen : List ℕ → List NumberedTerm
frozen words = map (term_in words) (range_with_len 0 (term_count words))

-- The positions of the i-th term stand in the words, and rise.
pub record IsTold (words : List ℕ) (i : ℕ) : Type 0 where
  pub order : begin_at words i ≤ end_at words i
  pub inside : end_at words i ≤ length words
  pub rising : ArePositions (slice_range words (begin_at words i) (end_at words i))

-- The heads stand in the words, and the positions of each term.
pub record IsFrozen (words : List ℕ) : Type 0 where
  pub heads : slice_index words 0 ≤ length words
  pub told : (i : ℕ) → i < term_count words → IsTold words i
