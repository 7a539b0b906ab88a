-- The words of a text, as facts about the whole text.
use Rattle.std.specs.Prelude.{◌≡◌, ◌≢◌, ◌<◌, ◌≤◌, ℕ, ◌+◌, Bool, true, false, List, [], ◌∷◌, ◌++◌, length, map, chars, encode_utf8_all}
use Rattle.sk_text.specs.declared.word.Word.{Word}
use Rattle.sk_text.specs.Characters.{belongs, ends_word, written}
use Rattle.sk_text.specs.Terms.{term_of}

-- Each character of the piece belongs to a word, or each does not, where `before` stands before the piece and `behind` follows it.
abbrev pub EachBelongs : Bool → List ℕ → List ℕ → List ℕ → Type 0
EachBelongs which before [] behind = Unit {0}
EachBelongs which before (c ∷ cs) behind =
    (belongs (ends_word before) c (cs ++ behind) ≡ which) × EachBelongs which (before ++ c ∷ []) cs behind

-- All of the piece belongs to words.
abbrev pub IsInside : List ℕ → List ℕ → List ℕ → Type 0
IsInside = EachBelongs true

-- Nothing of the piece belongs to a word.
abbrev pub IsOutside : List ℕ → List ℕ → List ℕ → Type 0
IsOutside = EachBelongs false

-- w is the word of number n: behind `before` come a gap with nothing of a word, which is not empty between two words, and then this run,
-- all of which belongs to a word
pub record IsNextWord (n : ℕ) (before gap run rest : List ℕ) (w : Word) : Type 0 where
  pub outside : IsOutside before gap (run ++ rest)
  pub apart : before ≢ [] → gap ≢ []
  pub inside : IsInside (before ++ gap) run rest
  pub some : run ≢ []
  pub from : w.from ≡ length (encode_utf8_all (before ++ gap))
  pub to : w.to ≡ length (encode_utf8_all (before ++ gap ++ run))
  pub number : w.number ≡ n
  pub term : w.term ≡ term_of (encode_utf8_all (map written run))

-- What is left behind `before` is gap and word by turns, the next of number n, and at last a gap.
abbrev pub AreLaid : ℕ → List ℕ → List ℕ → List Word → Type 0
AreLaid n before left [] = IsOutside before left []
AreLaid n before left (w ∷ ws) =
    (gap : List ℕ) × (run : List ℕ) × (rest : List ℕ) × (left ≡ gap ++ run ++ rest)
    × IsNextWord n before gap run rest w × AreLaid (n + 1) (before ++ gap ++ run) rest ws

-- ws are the words of the text
abbrev pub AreWords : List ℕ → List Word → Type 0
AreWords text ws = AreLaid 1 [] (chars text) ws

-- w takes some bytes of a text of this many, and its number is no greater than the byte before which it ends
pub record EndsWithin (size : ℕ) (w : Word) : Type 0 where
  pub some : w.from < w.to
  pub whole : w.to ≤ size
  pub count : w.number ≤ w.to
