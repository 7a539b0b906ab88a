-- What is true of the stem of any word.
use Rattle.std.proofs.Common.{◌≡◌, ◌≢◌, ℕ, zero, suc, ◌≤◌, ◌<◌, Bool, true, false, if◌then◌else◌, leb, List, [], ◌∷◌, length, IsAscii, IsUtf8, All, refl, sym, ap, ◌∙◌, subst, arith}
use Rattle.std.specs.Char.{is_ascii_lowercase}
use Rattle.std.specs.List.{list_all}
use Rattle.std.proofs.lemmas.Bool.Decides.{nat_tests}
use Rattle.std.proofs.lemmas.Str.{IsUtf8-from_ascii}
use Rattle.std.proofs.lemmas.Str.Ascii.{IsAscii-nil, All-from_ascii}
use Rattle.sk_stem.specs.Stems.{stem, is_stemmed, after_all_steps, step_1a, step_1b, step_1c, step_2, step_3, step_4, step_5a}
use Rattle.sk_stem.proofs.RuleLemmas.{both}
use Rattle.sk_stem.proofs.StepLaws.{are_letters, Grows, then_grows, step_1a-grows, step_1b-grows, step_1c-grows, step_2-grows, step_3-grows, step_4-grows, step_5a-grows, step_5b-grows, step_1a-some, step_1b-some, step_1c-some, step_2-some, step_3-some, step_4-some, step_5a-some, step_5b-some}

all_grow : (word : List ℕ) → Grows 0 word (after_all_steps word)
all_grow word =
    let a = step_1a word in
    let b = step_1b a in
    let c = step_1c b in
    let d = step_2 c in
    let e = step_3 d in
    let f = step_4 e in
    let g = step_5a f in
    then_grows word a _ (step_1a-grows word)
    (then_grows a b _ (step_1b-grows a)
    (then_grows b c _ (step_1c-grows b)
    (then_grows c d _ (step_2-grows c)
    (then_grows d e _ (step_3-grows d)
    (then_grows e f _ (step_4-grows e)
    (then_grows f g _ (step_5a-grows f) (step_5b-grows g)))))))

all_leave : (word : List ℕ) → 2 ≤ length word → 1 ≤ length (after_all_steps word)
all_leave word two =
    step_5b-some _ (step_5a-some _ (step_4-some _ (step_3-some _ (step_2-some _ (step_1c-some _ (step_1b-some _ (step_1a-some word two)))))))

-- a word that is too short, or has another byte than a to z, is its own stem
pub stem-own : (word : List ℕ) → is_stemmed word ≡ false → stem word ≡ word
unfolding stem
stem-own word e = ap (λ b. if b then after_all_steps word else word) e

-- any other has the one that the steps give
pub stem-stemmed : (word : List ℕ) → is_stemmed word ≡ true → stem word ≡ after_all_steps word
unfolding stem
stem-stemmed word e = ap (λ b. if b then after_all_steps word else word) e

length_by : (word : List ℕ) (b : Bool) → is_stemmed word ≡ b → length (stem word) ≤ length word
length_by word true e = let grows = (all_grow word).size in let same = ap length (stem-stemmed word e) in omega arith
length_by word false e = let same = ap length (stem-own word e) in omega arith

-- a stem is no longer than its word
pub stem-length : (word : List ℕ) → length (stem word) ≤ length word
stem-length word = length_by word (is_stemmed word) refl

-- a word that is stemmed has three letters
three_letters : (word : List ℕ) → is_stemmed word ≡ true → 3 ≤ length word
three_letters word e = let long = (both (leb 3 (length word)) (list_all is_ascii_lowercase word) e).0 in grind (arith, nat_tests)

some_by : (word : List ℕ) (b : Bool) → is_stemmed word ≡ b → 1 ≤ length word → 1 ≤ length (stem word)
some_by word true e some =
    let three = three_letters word e in let left = all_leave word (omega arith) in let same = ap length (stem-stemmed word e) in omega arith
some_by word false e some = let same = ap length (stem-own word e) in omega arith

-- the stem of a word that is not empty is not empty
pub stem-some : (word : List ℕ) → 1 ≤ length word → 1 ≤ length (stem word)
stem-some word some = some_by word (is_stemmed word) refl some

pub stem-not_empty : (word : List ℕ) → word ≢ [] → stem word ≢ []
stem-not_empty [] some e = some refl
stem-not_empty (c ∷ cs) some e = let left = stem-some (c ∷ cs) (omega arith) in let none = ap length e in omega arith

-- the stem of a word that is stemmed has letters from a to z alone
pub stem-letters : (word : List ℕ) → is_stemmed word ≡ true → list_all is_ascii_lowercase (stem word) ≡ true
stem-letters word e =
    ap are_letters (stem-stemmed word e) ∙ (all_grow word).letters (both (leb 3 (length word)) (list_all is_ascii_lowercase word) e).1

-- letters are ASCII
letters_ascii : (bs : List ℕ) → are_letters bs ≡ true → IsAscii bs
letters_ascii [] e i = IsAscii-nil i
letters_ascii (c ∷ cs) e zero = let one = (both (is_ascii_lowercase c) (are_letters cs) e).0 in grind (arith, nat_tests)
letters_ascii (c ∷ cs) e (suc i) = letters_ascii cs (both (is_ascii_lowercase c) (are_letters cs) e).1 i

-- a stem is ASCII, or its word
pub stem-IsAscii : (word : List ℕ) → is_stemmed word ≡ true → IsAscii (stem word)
stem-IsAscii word e = letters_ascii (stem word) (stem-letters word e)

utf8_by : (word : List ℕ) (b : Bool) → is_stemmed word ≡ b → IsUtf8 word → IsUtf8 (stem word)
utf8_by word true e utf8 = IsUtf8-from_ascii (stem word) (stem-IsAscii word e)
utf8_by word false e utf8 = subst IsUtf8 (sym (stem-own word e)) utf8

-- the stem of a text is a text
pub stem-IsUtf8 : (word : List ℕ) → IsUtf8 word → IsUtf8 (stem word)
stem-IsUtf8 word utf8 = utf8_by word (is_stemmed word) refl utf8

bytes_by : (word : List ℕ) (b : Bool) → is_stemmed word ≡ b → All (λ b. b < 256) word → All (λ b. b < 256) (stem word)
bytes_by word true e bytes = λ k d lt. let low = All-from_ascii (stem word) (stem-IsAscii word e) k d lt in omega arith
bytes_by word false e bytes = subst (All (λ b. b < 256)) (sym (stem-own word e)) bytes

-- the bytes of a stem are bytes, if those of its word are
pub stem-bytes : (word : List ℕ) → All (λ b. b < 256) word → All (λ b. b < 256) (stem word)
stem-bytes word bytes = bytes_by word (is_stemmed word) refl bytes
