-- The term that a word is found by.
use Rattle.std.specs.Prelude.{ℕ, List, length, ◌==◌, if◌then◌else◌, chars, encode_utf8_all}
use Rattle.unicode_normalization.specs.Forms.{nfc, nfd}
use Rattle.caseless.specs.Caseless.{default_case_fold}

-- The word apart (NFD), without case, and put together again (NFC).
abbrev pub folded_bytes : List ℕ → List ℕ
folded_bytes word = encode_utf8_all (nfc (default_case_fold (nfd (chars word))))

-- The term of a word: what it folds to, or the word itself where that is empty.
unfoldable pub term_of : List ℕ → List ℕ
term_of word = if length (folded_bytes word) == 0 then word else folded_bytes word
