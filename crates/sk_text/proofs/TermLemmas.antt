-- The term of a word, step by step.
use Rattle.std.proofs.Common.{◌≡◌, ℕ, List, [], ◌∷◌, map, IsUtf8, refl, ap₂, eqb-true, length, ◌∙◌, sym, ap, chars, encode_utf8_all, String, string_bytes, true, false, ◌==◌, if◌then◌else◌}
use Rattle.std.specs.String.{string_len}
use Rattle.std.proofs.lemmas.Str.{chars_from_encodes, encodes-chars, IsUtf8-string_bytes}
use Rattle.std.proofs.lemmas.Bool.{and_parts}
use Rattle.std.specs.List.{list_all}
use Rattle.sk_text.specs.Characters.{written, written_bytes}
use Rattle.unicode_normalization.specs.Forms.{nfc, nfd}
use Rattle.caseless.specs.Caseless.{default_case_fold}
use Rattle.sk_text.specs.Terms.{folded_bytes, term_of}

-- the characters of a string that was made of them
chars_of : {Z : Type 0} (s : String Z) (p cs : List ℕ) → p ≡ string_bytes s → string_bytes s ≡ encode_utf8_all cs → chars p ≡ cs
chars_of s p cs q e = ap chars q ∙ sym (chars_from_encodes cs (string_bytes s) (IsUtf8-string_bytes s) (sym e))

-- the three steps make what the word folds to
pub three_steps : {Z : Type 0} (word : List ℕ) (a b c : String Z) (p q : List ℕ)
    → string_bytes a ≡ encode_utf8_all (nfd (chars word))
    → p ≡ string_bytes a
    → string_bytes b ≡ encode_utf8_all (default_case_fold (chars p))
    → q ≡ string_bytes b
    → string_bytes c ≡ encode_utf8_all (nfc (chars q))
    → string_bytes c ≡ folded_bytes word
three_steps word a b c p q ea ep eb eq ec =
    ec ∙ ap (λ cs. encode_utf8_all (nfc cs)) (chars_of b q _ eq eb)
    ∙ ap (λ cs. encode_utf8_all (nfc (default_case_fold cs))) (chars_of a p _ ep ea)

-- the test for an empty text is that of what the word folds to
pub is_empty-folded : {Z : Type 0} (word : List ℕ) (s : String Z) → string_bytes s ≡ folded_bytes word → (string_len s == 0) ≡ (length (folded_bytes word) == 0)
is_empty-folded word s e = ap (λ n. n == 0) s.bytes.ok.0 ∙ ap (λ bs. length bs == 0) e

-- a word that folds to nothing is its own term
pub term_of-empty : (word : List ℕ) → (length (folded_bytes word) == 0) ≡ true → term_of word ≡ word
unfolding term_of
term_of-empty word e = ap (λ b. if b then word else folded_bytes word) e

-- any other has what it folds to
pub term_of-full : (word : List ℕ) → (length (folded_bytes word) == 0) ≡ false → term_of word ≡ folded_bytes word
unfolding term_of
term_of-full word e = ap (λ b. if b then word else folded_bytes word) e

map_written-same : (cs : List ℕ) → list_all (λ c. written c == c) cs ≡ true → map written cs ≡ cs
map_written-same [] e = refl
map_written-same (c ∷ cs) e =
    let parts = and_parts (written c == c) (list_all (λ d. written d == d) cs) e in
    ap₂ ◌∷◌ (eqb-true (written c) c parts.0) (map_written-same cs parts.1)

-- a word whose characters are written as they stand is written as it stands
pub written_bytes-same : (word : List ℕ) → IsUtf8 word → list_all (λ c. written c == c) (chars word) ≡ true → written_bytes word ≡ word
written_bytes-same word u e = ap encode_utf8_all (map_written-same (chars word) e) ∙ encodes-chars word u
