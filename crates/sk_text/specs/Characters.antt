-- Which characters belong to words.
use Rattle.std.specs.Prelude.{ℕ, Bool, true, false, ◌&&◌, ◌||◌, ◌==◌, if◌then◌else◌, List, [], ◌∷◌, map, chars, encode_utf8_all}
use Rattle.ucd_category.specs.GeneralCategory.{general_category}
use Rattle.ucd_category.specs.declared.GeneralCategory.{GeneralCategory}
use Rattle.ucd_category.specs.declared.GeneralCategory.TheVariants.{UppercaseLetter, LowercaseLetter, TitlecaseLetter, ModifierLetter, OtherLetter, NonspacingMark, SpacingMark, EnclosingMark, DecimalNumber, LetterNumber, OtherNumber, ConnectorPunctuation}

-- Letters, marks, numbers and connectors.
abbrev pub is_word_category : GeneralCategory → Bool
is_word_category UppercaseLetter = true
is_word_category LowercaseLetter = true
is_word_category TitlecaseLetter = true
is_word_category ModifierLetter = true
is_word_category OtherLetter = true
is_word_category NonspacingMark = true
is_word_category SpacingMark = true
is_word_category EnclosingMark = true
is_word_category DecimalNumber = true
is_word_category LetterNumber = true
is_word_category OtherNumber = true
is_word_category ConnectorPunctuation = true
is_word_category _ = false

-- c is a word character
abbrev pub is_word_char : ℕ → Bool
is_word_char c = is_word_category (general_category c)

abbrev pub is_capital_category : GeneralCategory → Bool
is_capital_category UppercaseLetter = true
is_capital_category _ = false

-- c is a capital letter
abbrev pub is_capital : ℕ → Bool
is_capital c = is_capital_category (general_category c)

-- c is U+0027 or U+2019
abbrev pub is_apostrophe : ℕ → Bool
is_apostrophe c = c == 0x27 || c == 0x2019

-- The first of these characters is a word character.
abbrev pub begins_word : List ℕ → Bool
begins_word [] = false
begins_word (c ∷ cs) = is_word_char c

-- The last of these characters is a word character.
abbrev pub ends_word : List ℕ → Bool
ends_word [] = false
ends_word (c ∷ []) = is_word_char c
ends_word (c ∷ d ∷ cs) = ends_word (d ∷ cs)

-- c belongs to a word: it is a word character, or an apostrophe directly between two of these
abbrev pub belongs : Bool → ℕ → List ℕ → Bool
belongs after c behind = is_word_char c || (after && is_apostrophe c && begins_word behind)

-- How c is written in a word: either apostrophe as U+0027.
abbrev pub written : ℕ → ℕ
written c = if is_apostrophe c then 0x27 else c

-- The bytes of a piece of text, each character as it is written in a word.
abbrev pub written_bytes : List ℕ → List ℕ
written_bytes text = encode_utf8_all (map written (chars text))
