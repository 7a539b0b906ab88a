-- The words of a text, as they are computed.
use Rattle.std.specs.Prelude.{ℕ, ◌+◌, Bool, false, ◌==◌, if◌then◌else◌, List, [], ◌∷◌, ◌++◌, length, chars, encode_utf8}
use Rattle.std.specs.Char.{len_utf8}
use Rattle.sk_text.specs.declared.word.Word.{Word}
use Rattle.sk_text.specs.Characters.{is_word_char, belongs, written}
use Rattle.sk_text.specs.Terms.{term_of}

-- The word that ends before the byte `at`, if one began before that.
abbrev pub ended : ℕ → ℕ → ℕ → List ℕ → List Word
ended number from at word =
    if from == at then [] else record { term = term_of word; from = from; to = at; number = number } ∷ []

-- The words that are still to come: the next has this number, a word character stands right before the byte `at` or none does (`after`),
-- and what is read of the open word began at the byte `from` and is written `word`.
abbrev pub words_from : ℕ → Bool → ℕ → ℕ → List ℕ → List ℕ → List Word
words_from number after from at word [] = ended number from at word
words_from number after from at word (c ∷ cs) =
    if belongs after c cs then words_from number (is_word_char c) from (at + len_utf8 c) (word ++ encode_utf8 (written c)) cs
    else ended number from at word
    ++ words_from (number + length (ended number from at word)) (is_word_char c) (at + len_utf8 c) (at + len_utf8 c) [] cs

-- The words of a text, numbered from 1.
abbrev pub words : List ℕ → List Word
words text = words_from 1 false 0 0 [] (chars text)
