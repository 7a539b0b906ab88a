-- Words are not empty, and so their terms are not.
use Rattle.std.proofs.Common.{◌≡◌, ◌≤◌, ℕ, ◌+◌, Bool, true, false, ◌==◌, if◌then◌else◌, List, [], ◌∷◌, ◌++◌, length, map, encode_utf8, refl, ap, ◌∙◌, arith, length-append}
use Rattle.std.specs.List.{list_all}
use Rattle.std.specs.Char.{len_utf8}
use Rattle.std.proofs.lemmas.Bool.Decides.{nat_tests}
use Rattle.std.proofs.lemmas.List.{map-append}
use Rattle.std.proofs.lemmas.List.Folds.{list_all-append}
use Rattle.std.proofs.lemmas.Str.{length-encode, len_utf8_bounds}
use Rattle.std.proofs.lemmas.Bool.{and_from}
use Rattle.sk_text.specs.declared.word.Word.{Word}
use Rattle.sk_text.specs.Characters.{is_word_char, belongs, written}
use Rattle.sk_text.specs.Terms.{folded_bytes, term_of}
use Rattle.sk_text.specs.Words.{ended, words_from}
use Rattle.sk_base.specs.Terms.{needs_colon, prefixed, is_given}
use Rattle.sk_grammar.specs.Characters.{word_term, run_terms}

-- A text with a byte is not empty.
pub given_some : (t : List ℕ) → 1 ≤ length t → is_given t ≡ true
given_some t h = grind (arith, nat_tests)

pub some_given : (t : List ℕ) → is_given t ≡ true → 1 ≤ length t
some_given t h = grind (arith, nat_tests)

-- The term of a word is not empty.
pub term_given : (text : List ℕ) → 1 ≤ length text → is_given (term_of text) ≡ true
unfolding term_of
term_given text some = by (length (folded_bytes text) == 0) refl
  where
    by : (b : Bool) → (length (folded_bytes text) == 0) ≡ b → is_given (if b then text else folded_bytes text) ≡ true
    by true e = given_some text some
    by false e = grind (arith, nat_tests)

-- The terms of these words are not empty.
abbrev AreGiven : List Word → Type 0
AreGiven ws = list_all is_given (map word_term ws) ≡ true

if_given : (b : Bool) (vs ws : List Word) → AreGiven vs → AreGiven ws → AreGiven (if b then vs else ws)
if_given true vs ws f g = f
if_given false vs ws f g = g

append_given : (vs ws : List Word) → AreGiven vs → AreGiven ws → AreGiven (vs ++ ws)
append_given vs ws f g =
    ap (list_all is_given) (map-append word_term vs ws) ∙ list_all-append is_given (map word_term vs) (map word_term ws)
    ∙ and_from (list_all is_given (map word_term vs)) (list_all is_given (map word_term ws)) f g

-- The word that ends here, where it has a byte if it began.
ended_given : (number from at : ℕ) (word : List ℕ) → ((from == at) ≡ false → 1 ≤ length word) → AreGiven (ended number from at word)
ended_given number from at word some = by (from == at) refl
  where
    by : (b : Bool) → (from == at) ≡ b → AreGiven (if b then [] else record { term = term_of word; from = from; to = at; number = number } ∷ [])
    by true e = refl
    by false e = and_from (is_given (term_of word)) true (term_given word (some e)) refl

-- A word has a byte when a character is put to it.
longer_some : (word : List ℕ) (c : ℕ) → 1 ≤ length (word ++ encode_utf8 c)
longer_some word c =
    let whole = length-append word (encode_utf8 c) in
    let last = length-encode c in
    let some = (len_utf8_bounds c).0 in
    omega (arith, whole, last, some)

same_place : (n : ℕ) → (n == n) ≡ false → 1 ≤ 0
same_place n e = grind (arith, nat_tests)

from_given : (cs : List ℕ) (number : ℕ) (after : Bool) (from at : ℕ) (word : List ℕ) → ((from == at) ≡ false → 1 ≤ length word)
    → AreGiven (words_from number after from at word cs)
from_given [] number after from at word some = ended_given number from at word some
from_given (c ∷ cs) number after from at word some =
    if_given (belongs after c cs) (words_from number (is_word_char c) from (at + len_utf8 c) (word ++ encode_utf8 (written c)) cs)
    (ended number from at word ++ words_from (number + length (ended number from at word)) (is_word_char c) (at + len_utf8 c) (at + len_utf8 c) [] cs)
    (from_given cs number (is_word_char c) from (at + len_utf8 c) (word ++ encode_utf8 (written c)) (λ _. longer_some word (written c)))
    (append_given (ended number from at word) (words_from (number + length (ended number from at word)) (is_word_char c) (at + len_utf8 c) (at + len_utf8 c) [] cs)
    (ended_given number from at word some)
    (from_given cs (number + length (ended number from at word)) (is_word_char c) (at + len_utf8 c) (at + len_utf8 c) [] (same_place (at + len_utf8 c))))

-- The terms of a run are not empty.
pub terms_given : (cs : List ℕ) → list_all is_given (run_terms cs) ≡ true
terms_given cs = from_given cs 1 false 0 0 [] (same_place 0)

-- A term under a prefix is not empty, where either is not.
if_some : (b : Bool) (p t : List ℕ) → 1 ≤ length p + length t → 1 ≤ length (if b then p ++ (58 ∷ t) else p ++ t)
if_some true p t h = let whole = length-append p (58 ∷ t) in omega (arith, whole)
if_some false p t h = let whole = length-append p t in omega (arith, whole)

prefixed_some : (prefix text : List ℕ) → 1 ≤ length prefix + length text → is_given (prefixed prefix text) ≡ true
prefixed_some prefix text h = given_some (prefixed prefix text) (if_some (needs_colon prefix text) prefix text h)

pub text_prefixed : (prefix text : List ℕ) → is_given text ≡ true → is_given (prefixed prefix text) ≡ true
text_prefixed prefix text e = let some = some_given text e in prefixed_some prefix text (omega arith)

pub prefix_prefixed : (prefix text : List ℕ) → is_given prefix ≡ true → is_given (prefixed prefix text) ≡ true
prefix_prefixed prefix text e = let some = some_given prefix e in prefixed_some prefix text (omega arith)
