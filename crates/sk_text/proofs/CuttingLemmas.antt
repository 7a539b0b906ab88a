-- How far a text is cut.
use Rattle.std.proofs.Common.{◌≡◌, ℕ, ◌+◌, ◌-◌, ◌≤◌, Bool, true, false, List, [], ◌∷◌, ◌++◌, length, map, take, drop, chars, encode_utf8, encode_utf8_all, IsUtf8, refl, sym, ap, ◌∙◌, subst, arith, append_assoc, length-append}
use Rattle.std.proofs.Math.Utf8.{scalar, scalars}
use Rattle.std.proofs.lemmas.Bool.{and_parts}
use Rattle.std.proofs.lemmas.Bool.Decides.{nat_tests}
use Rattle.std.proofs.lemmas.List.{append-nil, drop_at, take_at}
use Rattle.std.proofs.lemmas.Str.{chars-nil, chars_past_char, chars_from_encodes, encodes-append, scalars-chars, IsUtf8-nil, IsUtf8-append, IsUtf8-encode, IsUtf8-past_char, IsCharBoundary-at_seam, length-encode, len_utf8_bounds}
use Rattle.std.specs.Char.{IsScalar, len_utf8}
use Rattle.std.specs.Str.{IsCharBoundary}
use Rattle.sk_text.specs.declared.word.Word.{Word}
use Rattle.sk_text.specs.Characters.{is_word_char, belongs, written}
use Rattle.sk_text.specs.Words.{ended, words_from, words}
use Rattle.sk_text.proofs.LayoutLemmas.{length-snoc, encodes-snoc}

-- the words made so far, and those from here on, are those of the text
pub record IsCut (text rest : List ℕ) (made : List Word) (number : ℕ) (after : Bool) (from at : ℕ) (word : List ℕ) : Type 0 where
  pub utf8 : IsUtf8 rest
  pub place : at + length rest ≡ length text
  pub count : number ≤ at + 1
  pub cut : made ++ words_from number after from at word (chars rest) ≡ words text

-- the open word, which began at the byte `from`, stands there in the text as these characters, up to the byte `at`
pub record IsOpen (text rest : List ℕ) (from at : ℕ) (run : List ℕ) : Type 0 where
  pub before : List ℕ
  pub whole : text ≡ before ++ (encode_utf8_all run ++ rest)
  pub starts : from ≡ length before
  pub ends : at ≡ from + length (encode_utf8_all run)
  pub utf8 : IsUtf8 (encode_utf8_all run)

-- one character on, what is left of the text
step_place : (text bs rest : List ℕ) (c at : ℕ) → at + length bs ≡ length text → bs ≡ encode_utf8 c ++ rest → (at + len_utf8 c) + length rest ≡ length text
step_place text bs rest c at p e =
    let whole = ap length e ∙ length-append (encode_utf8 c) rest in
    let first = length-encode c in
    omega (arith, whole, first, p)

-- at most one word ends at a place
length-ended : (number from at : ℕ) (word : List ℕ) → length (ended number from at word) ≤ 1
length-ended number from at word = grind (arith, nat_tests)

-- a character that belongs to a word
pub step_in : (text bs rest : List ℕ) (made : List Word) (number : ℕ) (after : Bool) (from at : ℕ) (word : List ℕ) (c : ℕ)
    → IsCut text bs made number after from at word → bs ≡ encode_utf8 c ++ rest → belongs after c (chars rest) ≡ true
    → IsCut text rest made number (is_word_char c) from (at + len_utf8 c) (word ++ encode_utf8 (written c))
step_in text bs rest made number after from at word c r e h =
    record {
      utf8 = IsUtf8-past_char bs rest c r.utf8 e;
      place = step_place text bs rest c at r.place e;
      count = let n = r.count in omega (arith, n);
      cut = rw h at (rw (chars_past_char bs rest c r.utf8 e) at r.cut);
    }

-- a character that belongs to none
pub step_out : (text bs rest : List ℕ) (made : List Word) (number : ℕ) (after : Bool) (from at : ℕ) (word : List ℕ) (c : ℕ)
    → IsCut text bs made number after from at word → bs ≡ encode_utf8 c ++ rest → belongs after c (chars rest) ≡ false
    → IsCut text rest (made ++ ended number from at word) (number + length (ended number from at word)) (is_word_char c) (at + len_utf8 c) (at + len_utf8 c) []
step_out text bs rest made number after from at word c r e h =
    record {
      utf8 = IsUtf8-past_char bs rest c r.utf8 e;
      place = step_place text bs rest c at r.place e;
      count = let n = r.count in let one = length-ended number from at word in let some = (len_utf8_bounds c).0 in omega (arith, n, one, some);
      cut =
          append_assoc made (ended number from at word) (words_from (number + length (ended number from at word)) (is_word_char c) (at + len_utf8 c) (at + len_utf8 c) [] (chars rest))
          ∙ rw h at (rw (chars_past_char bs rest c r.utf8 e) at r.cut);
    }

-- at the end of the text
pub cut_end : (text bs : List ℕ) (made : List Word) (number : ℕ) (after : Bool) (from at : ℕ) (word : List ℕ)
    → IsCut text bs made number after from at word → length bs ≡ 0 → made ++ ended number from at word ≡ words text
cut_end text [] made number after from at word r e = ap (λ cs. made ++ words_from number after from at word cs) (sym chars-nil) ∙ r.cut
cut_end text (b ∷ bs) made number after from at word r e = absurd (omega arith)

-- a text begins with a scalar value
scalar_head : (bs rest : List ℕ) (c : ℕ) → IsUtf8 bs → bs ≡ encode_utf8 c ++ rest → IsScalar c
scalar_head bs rest c u e =
    (and_parts (scalar c) (scalars (chars rest)) (ap scalars (sym (chars_past_char bs rest c u e)) ∙ scalars-chars bs u)).0

-- it begins at a place where the text may be cut
pub open_from : (text rest : List ℕ) (from at : ℕ) (run : List ℕ) → IsOpen text rest from at run → IsUtf8 rest → IsCharBoundary text from
open_from text rest from at run o u =
    subst (IsCharBoundary text) (sym o.starts)
    (IsCharBoundary-at_seam text o.before (encode_utf8_all run ++ rest) o.whole (IsUtf8-append (encode_utf8_all run) rest o.utf8 u))

-- and ends at one
pub open_at : (text rest : List ℕ) (from at : ℕ) (run : List ℕ) → IsOpen text rest from at run → IsUtf8 rest → IsCharBoundary text at
open_at text rest from at run o u =
    let front = o.before ++ encode_utf8_all run in
    let size : length front ≡ at = let sum = length-append o.before (encode_utf8_all run) in let starts = o.starts in let ends = o.ends in omega (arith, sum, starts, ends) in
    subst (IsCharBoundary text) size
    (IsCharBoundary-at_seam text front rest (o.whole ∙ sym (append_assoc o.before (encode_utf8_all run) rest)) u)

-- the bytes between the two are those of its characters
pub open_chars : (text rest : List ℕ) (from at : ℕ) (run word : List ℕ) → IsOpen text rest from at run → word ≡ take (at - from) (drop from text) → chars word ≡ run
open_chars text rest from at run word o e =
    let size : length (encode_utf8_all run) ≡ at - from = let ends = o.ends in omega (arith, ends) in
    let bytes = e ∙ ap (λ bs. take (at - from) (drop from bs)) o.whole
    ∙ ap (take (at - from)) (drop_at o.before (encode_utf8_all run ++ rest) from (sym o.starts))
    ∙ take_at (encode_utf8_all run) rest (at - from) size in
    ap chars bytes ∙ sym (chars_from_encodes run (encode_utf8_all run) o.utf8 refl)

-- how far a text is read: with the words that are cut, and a word open
abbrev pub IsReading : List ℕ → List ℕ → List Word → ℕ → Bool → ℕ → ℕ → Type 0
IsReading text rest made number after from at =
    (run : List ℕ) × IsOpen text rest from at run × IsCut text rest made number after from at (encode_utf8_all (map written run))

-- at the start of the text
pub read_none : (text : List ℕ) → IsUtf8 text → IsReading text text [] 1 false 0 0
read_none text u = (
  [],
  record { before = []; whole = refl; starts = refl; ends = refl; utf8 = IsUtf8-nil },
  record { utf8 = u; place = omega arith; count = omega arith; cut = refl },
)

-- past a character that belongs to the open word
pub read_in : (text bs rest : List ℕ) (made : List Word) (number : ℕ) (after : Bool) (from at c : ℕ)
    → IsReading text bs made number after from at → bs ≡ encode_utf8 c ++ rest → belongs after c (chars rest) ≡ true
    → IsReading text rest made number (is_word_char c) from (at + len_utf8 c)
read_in text bs rest made number after from at c r e h =
    let run = r.0 in
    let o = r.1 in
    let bytes : encode_utf8_all (run ++ c ∷ []) ≡ encode_utf8_all run ++ encode_utf8 c =
    encodes-append run (c ∷ []) ∙ ap (λ ds. encode_utf8_all run ++ ds) (append-nil (encode_utf8 c)) in
    let last : IsUtf8 (encode_utf8 c) = IsUtf8-encode c (scalar_head bs rest c r.2.utf8 e) in (
      run ++ c ∷ [],
      record {
        before = o.before;
        whole =
            o.whole ∙ ap (λ ds. o.before ++ ds)
            (ap (λ ds. encode_utf8_all run ++ ds) e ∙ sym (append_assoc (encode_utf8_all run) (encode_utf8 c) rest) ∙ ap (λ ds. ds ++ rest) (sym bytes));
        starts = o.starts;
        ends = let ends = o.ends in let more = length-snoc run c in omega (arith, ends, more);
        utf8 = subst IsUtf8 (sym bytes) (IsUtf8-append (encode_utf8_all run) (encode_utf8 c) o.utf8 last);
      },
      subst (IsCut text rest made number (is_word_char c) from (at + len_utf8 c)) (sym (encodes-snoc run c)) (step_in text bs rest made number after from at (encode_utf8_all (map written run)) c r.2 e h),
    )

-- past one that belongs to none, where `word` is what stood open
pub read_out : (text bs rest : List ℕ) (made : List Word) (number : ℕ) (after : Bool) (from at c : ℕ) (word : List ℕ)
    → (r : IsReading text bs made number after from at) → bs ≡ encode_utf8 c ++ rest → belongs after c (chars rest) ≡ false → word ≡ take (at - from) (drop from text)
    → IsReading text rest (made ++ ended number from at (encode_utf8_all (map written (chars word))))
    (number + length (ended number from at (encode_utf8_all (map written (chars word))))) (is_word_char c) (at + len_utf8 c) (at + len_utf8 c)
read_out text bs rest made number after from at c word r e h w =
    let run = r.0 in
    let o = r.1 in
    let next = at + len_utf8 c in
    rw (open_chars text bs from at run word o w) (
      [],
      record {
        before = o.before ++ (encode_utf8_all run ++ encode_utf8 c);
        whole =
            o.whole ∙ ap (λ ds. o.before ++ ds) (ap (λ ds. encode_utf8_all run ++ ds) e ∙ sym (append_assoc (encode_utf8_all run) (encode_utf8 c) rest))
            ∙ sym (append_assoc o.before (encode_utf8_all run ++ encode_utf8 c) rest);
        starts =
            let starts = o.starts in
            let ends = o.ends in
            let outer = length-append o.before (encode_utf8_all run ++ encode_utf8 c) in
            let inner = length-append (encode_utf8_all run) (encode_utf8 c) in
            let last = length-encode c in
            omega (arith, starts, ends, outer, inner, last);
        ends = omega arith;
        utf8 = IsUtf8-nil;
      },
      step_out text bs rest made number after from at (encode_utf8_all (map written run)) c r.2 e h,
    )

-- at the end of the text
pub read_all : (text bs : List ℕ) (made : List Word) (number : ℕ) (after : Bool) (from at : ℕ) (word : List ℕ)
    → IsReading text bs made number after from at → length bs ≡ 0 → word ≡ take (at - from) (drop from text)
    → made ++ ended number from at (encode_utf8_all (map written (chars word))) ≡ words text
read_all text bs made number after from at word r e w =
    rw (open_chars text bs from at r.0 word r.1 w) (cut_end text bs made number after from at (encode_utf8_all (map written r.0)) r.2 e)

-- the place behind a character
pub read_place : (text bs rest : List ℕ) (made : List Word) (number : ℕ) (after : Bool) (from at c : ℕ)
    → IsReading text bs made number after from at → bs ≡ encode_utf8 c ++ rest → length text - length rest ≡ at + len_utf8 c
read_place text bs rest made number after from at c r e =
    let place = step_place text bs rest c at r.2.place e in omega (arith, place)
