-- What is true of the words of any text.
use Rattle.std.proofs.Common.{◌≡◌, ◌≢◌, ℕ, zero, suc, ◌+◌, ◌*◌, ◌<◌, ◌≤◌, List, [], ◌∷◌, ◌++◌, length, get_or, chars, encode_utf8_all, IsUtf8, All, refl, sym, ap, ◌∙◌, arith, append_assoc, add-zero, length-append}
use Rattle.std.proofs.lemmas.List.Elements.{All-cons, All-nil}
use Rattle.std.proofs.lemmas.Str.{encodes-append, encodes-chars}
use Rattle.sk_text.specs.declared.word.Word.{Word}
use Rattle.sk_text.specs.Words.{words}
use Rattle.sk_text.specs.Layout.{IsNextWord, AreLaid, EndsWithin}
use Rattle.sk_text.proofs.LayoutLemmas.{length-run, words-AreWords}

-- how many bytes these characters take
abbrev size : List ℕ → ℕ
size cs = length (encode_utf8_all cs)

-- a text is no shorter than its front
size-front : (xs ys : List ℕ) → size xs ≤ size (xs ++ ys)
size-front xs ys =
    let whole = ap length (encodes-append xs ys) ∙ length-append (encode_utf8_all xs) (encode_utf8_all ys) in
    omega (arith, whole)

-- and longer than what stands before a run
size-run : (xs run : List ℕ) → run ≢ [] → size xs < size (xs ++ run)
size-run xs [] some = absurd (some refl)
size-run xs (c ∷ cs) some = length-run xs c cs

-- the next word stands behind what is before it, and takes bytes
next_bounds : (n : ℕ) (before gap run rest : List ℕ) (w : Word) → IsNextWord n before gap run rest w → (size before ≤ w.from) × (w.from < w.to)
next_bounds n before gap run rest w r = (
  rw r.from (size-front before gap),
  rw (r.from, r.to) (size-run (before ++ gap) run r.some),
)

-- the parts of the whole, in their order
seam : (before gap run rest : List ℕ) → (before ++ gap ++ run) ++ rest ≡ before ++ (gap ++ run ++ rest)
seam before gap run rest = simp append_assoc

-- what is left behind a word fits the same whole
rest_fits : (before gap run rest left : List ℕ) (most : ℕ) → left ≡ gap ++ run ++ rest → size (before ++ left) ≤ most → size ((before ++ gap ++ run) ++ rest) ≤ most
rest_fits before gap run rest left most e fits = rw (seam before gap run rest, ← e) fits

-- each word is within the whole
laid_within : (ws : List Word) (n : ℕ) (before left : List ℕ) (most : ℕ) → size (before ++ left) ≤ most → n ≤ size before + 1 → AreLaid n before left ws → All (EndsWithin most) ws
laid_within [] n before left most fits count r = All-nil (EndsWithin most)
laid_within (w ∷ ws) n before left most fits count r =
    let later = rest_fits before r.0 r.1 r.2 left most r.3 fits in
    let front = size-front (before ++ r.0 ++ r.1) r.2 in
    let bounds = next_bounds n before r.0 r.1 r.2 w r.4 in
    let end = r.4.to in
    All-cons (EndsWithin most) w ws (record { some = bounds.1; whole = omega (arith, front, later, end); count = omega (arith, bounds.0, bounds.1, r.4.number, count) })
    (laid_within ws (n + 1) (before ++ r.0 ++ r.1) r.2 most later (omega (arith, bounds.0, bounds.1, end, count)) r.5)

-- a list that ends with a run is not empty
some-run : (xs run : List ℕ) → run ≢ [] → xs ++ run ≢ []
some-run [] run some = some
some-run (x ∷ xs) run some = λ e. cc

-- behind something each word takes two bytes or more with the gap before it
laid_count : (ws : List Word) (n : ℕ) (before left : List ℕ) (most : ℕ) → before ≢ [] → size (before ++ left) ≤ most → AreLaid n before left ws → 2 * length ws + size before ≤ most
laid_count [] n before left most some fits r = let front = size-front before left in omega (arith, front, fits)
laid_count (w ∷ ws) n before left most some fits r =
    let gap = size-run before r.0 (r.4.apart some) in
    let run = size-run (before ++ r.0) r.1 r.4.some in
    let more = laid_count ws (n + 1) (before ++ r.0 ++ r.1) r.2 most (some-run (before ++ r.0) r.1 r.4.some) (rest_fits before r.0 r.1 r.2 left most r.3 fits) r.5 in
    omega (arith, gap, run, more)

-- and the first may do without a gap
laid_all : (ws : List Word) (left : List ℕ) (most : ℕ) → size left ≤ most → AreLaid 1 [] left ws → 2 * length ws ≤ most + 1
laid_all [] left most fits r = omega arith
laid_all (w ∷ ws) left most fits r =
    let run = size-run ([] ++ r.0) r.1 r.4.some in
    let more = laid_count ws 2 ([] ++ r.0 ++ r.1) r.2 most (some-run ([] ++ r.0) r.1 r.4.some) (rest_fits [] r.0 r.1 r.2 left most r.3 fits) r.5 in
    omega (arith, run, more)

-- the words are numbered one by one
laid_number : (ws : List Word) (n : ℕ) (before left : List ℕ) → AreLaid n before left ws → (i : ℕ) (d : Word) → i < length ws → (get_or ws i d).number ≡ n + i
laid_number [] n before left r i d h = absurd (omega arith)
laid_number (w ∷ ws) n before left r zero d h = r.4.number ∙ sym (add-zero n)
laid_number (w ∷ ws) n before left r (suc i) d h =
    let more = laid_number ws (n + 1) (before ++ r.0 ++ r.1) r.2 r.5 i d (omega arith) in more ∙ omega arith

-- the characters of a text take its bytes
size-chars : (text : List ℕ) → IsUtf8 text → size (chars text) ≡ length text
size-chars text u = ap length (encodes-chars text u)

-- each word is within its text
pub words-IsWithin : (text : List ℕ) → IsUtf8 text → All (EndsWithin (length text)) (words text)
words-IsWithin text u = laid_within (words text) 1 [] (chars text) (length text) (omega (arith, size-chars text u)) (omega arith) (words-AreWords text)

-- a text has no more words than half its bytes, and one
pub length-words : (text : List ℕ) → IsUtf8 text → 2 * length (words text) ≤ length text + 1
length-words text u = laid_all (words text) (chars text) (length text) (omega (arith, size-chars text u)) (words-AreWords text)

-- the word at the place i has the number i + 1
pub words-number : (text : List ℕ) (i : ℕ) (d : Word) → i < length (words text) → (get_or (words text) i d).number ≡ 1 + i
words-number text i d h = laid_number (words text) 1 [] (chars text) (words-AreWords text) i d h
