-- What plain ASCII folds to, and which ASCII characters are word characters.
use Rattle.std.proofs.Common.{◌≡◌, ℕ, suc, ◌<◌, false, ◌||◌, ◌==◌, List, [], ◌∷◌, length, map, IsAscii, encode_utf8_all, refl, ap, ap₂, ◌∙◌, arith}
use Rattle.std.proofs.lemmas.Bool.Decides.{nat_tests}
use Rattle.std.specs.Bool.{beq}
use Rattle.std.specs.Char.{to_ascii_lowercase, is_ascii_alphanumeric}
use Rattle.std.proofs.lemmas.Str.{chars-IsAscii}
use Rattle.std.proofs.lemmas.Str.Ascii.{encodes-IsAscii, IsAscii-map, lowercase_ascii, All-from_ascii}
use Rattle.ucd_table.proofs.Facts.{Stepped-below, same_from_beq}
use Rattle.ucd_category.specs.GeneralCategory.{general_category}
use Rattle.ucd_category.proofs.GeneralCategoryLemmas.{general_category_stepped}
use Rattle.ucd_category.proofs.Computing.{ucd_category}
use Rattle.unicode_normalization.specs.Forms.{Nfc, Nfd, nfc, nfd}
use Rattle.unicode_normalization.proofs.FormsLemmas.{normalize-ascii}
use Rattle.caseless.specs.Caseless.{default_case_fold}
use Rattle.caseless.proofs.CaselessLemmas.{default_case_fold-ascii}
use Rattle.sk_text.specs.Characters.{is_word_category, is_word_char, written, written_bytes}
use Rattle.sk_text.specs.Terms.{folded_bytes, term_of}
use Rattle.sk_text.proofs.TermLemmas.{term_of-empty, term_of-full}

-- ASCII folds to itself with its capitals made small
folded_bytes-ascii : (word : List ℕ) → IsAscii word → folded_bytes word ≡ map to_ascii_lowercase word
folded_bytes-ascii word ascii =
    let lower = map to_ascii_lowercase word in
    let low : IsAscii lower = IsAscii-map to_ascii_lowercase word lowercase_ascii ascii in
    ap (λ cs. encode_utf8_all (nfc (default_case_fold (nfd cs)))) (chars-IsAscii word ascii)
    ∙ ap (λ cs. encode_utf8_all (nfc (default_case_fold cs))) (normalize-ascii Nfd word (All-from_ascii word ascii))
    ∙ ap (λ cs. encode_utf8_all (nfc cs)) (default_case_fold-ascii word (All-from_ascii word ascii))
    ∙ ap encode_utf8_all (normalize-ascii Nfc lower (All-from_ascii lower low))
    ∙ encodes-IsAscii lower low

some_bytes : (n k : ℕ) → n ≡ suc k → (n == 0) ≡ false
some_bytes n k e = grind (arith, nat_tests)

-- the term of an ASCII word is the word with its capitals made small
pub term_of-ascii : (word : List ℕ) → IsAscii word → term_of word ≡ map to_ascii_lowercase word
term_of-ascii [] ascii = term_of-empty [] (ap (λ bs. length bs == 0) (folded_bytes-ascii [] ascii))
term_of-ascii (b ∷ bs) ascii =
    let whole = folded_bytes-ascii (b ∷ bs) ascii in
    let full : length (folded_bytes (b ∷ bs)) ≡ suc (length (map to_ascii_lowercase bs)) = ap length whole in
    term_of-full (b ∷ bs) (some_bytes (length (folded_bytes (b ∷ bs))) (length (map to_ascii_lowercase bs)) full) ∙ whole

-- ASCII is written as it stands
written-ascii : (c : ℕ) → c < 128 → written c ≡ c
written-ascii c lt = grind (arith, nat_tests)

map_written-ascii : (cs : List ℕ) → IsAscii cs → map written cs ≡ cs
map_written-ascii [] ascii = refl
map_written-ascii (c ∷ cs) ascii = ap₂ ◌∷◌ (written-ascii c (ascii 0)) (map_written-ascii cs (λ i. ascii (suc i)))

pub written_bytes-ascii : (word : List ℕ) → IsAscii word → written_bytes word ≡ word
written_bytes-ascii word ascii =
    ap (λ cs. encode_utf8_all (map written cs)) (chars-IsAscii word ascii)
    ∙ ap encode_utf8_all (map_written-ascii word ascii) ∙ encodes-IsAscii word ascii

-- an ASCII character is a word character where it is a letter, a digit or the underscore
pub is_word_char-ascii : (c : ℕ) → c < 128 → is_word_char c ≡ (is_ascii_alphanumeric c || c == 95)
unfolding ucd_category
is_word_char-ascii c lt =
    same_from_beq _ _ (Stepped-below general_category general_category_stepped (λ x v. beq (is_word_category v) (is_ascii_alphanumeric x || x == 95)) 128 refl c lt)
