-- The words that are computed are those of the layout.
use Rattle.std.proofs.Common.{◌≡◌, ◌≢◌, ℕ, ◌+◌, ◌<◌, Bool, true, false, cond, List, [], ◌∷◌, ◌++◌, length, map, chars, encode_utf8, encode_utf8_all, refl, sym, ap, ◌∙◌, subst, arith, append_assoc, add-zero, length-append}
use Rattle.std.proofs.lemmas.Bool.Decides.{nat_tests}
use Rattle.std.proofs.lemmas.List.{append-nil, map-append}
use Rattle.std.proofs.lemmas.Str.{encodes-append, length-encode, len_utf8_bounds}
use Rattle.std.specs.Char.{len_utf8}
use Rattle.sk_text.specs.declared.word.Word.{Word}
use Rattle.sk_text.specs.Characters.{is_word_char, ends_word, belongs, written}
use Rattle.sk_text.specs.Terms.{term_of}
use Rattle.sk_text.specs.Words.{ended, words_from, words}
use Rattle.sk_text.specs.Layout.{EachBelongs, IsInside, IsOutside, IsNextWord, AreLaid, AreWords}

-- one character more at the end is the last
ends_word-snoc : (xs : List ℕ) (c : ℕ) → ends_word (xs ++ c ∷ []) ≡ is_word_char c
ends_word-snoc [] c = refl
ends_word-snoc (x ∷ []) c = refl
ends_word-snoc (x ∷ y ∷ ys) c = ends_word-snoc (y ∷ ys) c

-- a piece takes in the character that follows it
EachBelongs-snoc : (which : Bool) (before piece : List ℕ) (c : ℕ) (behind : List ℕ) → EachBelongs which before piece (c ∷ behind)
    → belongs (ends_word (before ++ piece)) c behind ≡ which → EachBelongs which before (piece ++ c ∷ []) behind
EachBelongs-snoc which before [] c behind p h = (ap (λ xs. belongs (ends_word xs) c behind) (sym (append-nil before)) ∙ h, tt)
EachBelongs-snoc which before (d ∷ ds) c behind p h = (
  ap (λ xs. belongs (ends_word before) d xs) (append_assoc ds (c ∷ []) behind) ∙ p.0,
  EachBelongs-snoc which (before ++ d ∷ []) ds c behind p.1 (ap (λ xs. belongs (ends_word xs) c behind) (append_assoc before (d ∷ []) ds) ∙ h),
)

-- how many bytes one character more takes
pub length-snoc : (xs : List ℕ) (c : ℕ) → length (encode_utf8_all (xs ++ c ∷ [])) ≡ length (encode_utf8_all xs) + len_utf8 c
length-snoc xs c =
    ap length (encodes-append xs (c ∷ [])) ∙ length-append (encode_utf8_all xs) (encode_utf8_all (c ∷ []))
    ∙ ap (λ n. length (encode_utf8_all xs) + n) (ap length (append-nil (encode_utf8 c)) ∙ length-encode c)

-- the bytes of one character more
pub encodes-snoc : (xs : List ℕ) (c : ℕ) → encode_utf8_all (map written (xs ++ c ∷ [])) ≡ encode_utf8_all (map written xs) ++ encode_utf8 (written c)
encodes-snoc xs c =
    ap encode_utf8_all (map-append written xs (c ∷ [])) ∙ encodes-append (map written xs) (written c ∷ [])
    ∙ ap (λ bs. encode_utf8_all (map written xs) ++ bs) (append-nil (encode_utf8 (written c)))

-- a run that is not empty takes bytes
pub length-run : (xs : List ℕ) (c : ℕ) (cs : List ℕ) → length (encode_utf8_all xs) < length (encode_utf8_all (xs ++ c ∷ cs))
length-run xs c cs =
    let whole = ap length (encodes-append xs (c ∷ cs)) ∙ length-append (encode_utf8_all xs) (encode_utf8_all (c ∷ cs)) in
    let parts = length-append (encode_utf8 c) (encode_utf8_all cs) in
    let first = length-encode c in
    let some = (len_utf8_bounds c).0 in
    omega (arith, whole, parts, first, some)

-- no word ends where none began
ended-none : (n from at : ℕ) (word : List ℕ) → from ≡ at → ended n from at word ≡ []
ended-none n from at word e = grind (arith, nat_tests)

-- the word that began before
ended-one : (n from at : ℕ) (word : List ℕ) → from < at → ended n from at word ≡ record { term = term_of word; from = from; to = at; number = n } ∷ []
ended-one n from at word l = grind (arith, nat_tests)

-- what is read so far, in the terms of the layout
record IsReading (before gap run cs : List ℕ) (after : Bool) (from at : ℕ) (word : List ℕ) : Type 0 where
  ends : after ≡ ends_word (before ++ gap ++ run)
  start : from ≡ length (encode_utf8_all (before ++ gap))
  place : at ≡ length (encode_utf8_all (before ++ gap ++ run))
  spelt : word ≡ encode_utf8_all (map written run)
  outside : IsOutside before gap (run ++ cs)
  inside : IsInside (before ++ gap) run cs
  apart : before ≢ [] → gap ≢ []

-- a list with something at its end is not empty
snoc-some : (xs : List ℕ) (c : ℕ) → xs ++ c ∷ [] ≢ []
snoc-some [] c e = cc
snoc-some (x ∷ xs) c e = cc

-- what stands before one character more
last-one : (before gap run : List ℕ) (c : ℕ) → before ++ gap ++ (run ++ c ∷ []) ≡ (before ++ gap ++ run) ++ c ∷ []
last-one before gap run c = sym (append_assoc (before ++ gap) run (c ∷ []))

-- the run takes in one character more
reading_in : (before gap run cs : List ℕ) (c : ℕ) (after : Bool) (from at : ℕ) (word : List ℕ) → IsReading before gap run (c ∷ cs) after from at word
    → belongs after c cs ≡ true → IsReading before gap (run ++ c ∷ []) cs (is_word_char c) from (at + len_utf8 c) (word ++ encode_utf8 (written c))
reading_in before gap run cs c after from at word r h =
    record {
      ends = sym (ap ends_word (last-one before gap run c) ∙ ends_word-snoc (before ++ gap ++ run) c);
      start = r.start;
      place = sym (ap (λ xs. length (encode_utf8_all xs)) (last-one before gap run c) ∙ length-snoc (before ++ gap ++ run) c ∙ ap (λ n. n + len_utf8 c) (sym r.place));
      spelt = sym (encodes-snoc run c ∙ ap (λ bs. bs ++ encode_utf8 (written c)) (sym r.spelt));
      outside = subst (λ (xs : List ℕ). IsOutside before gap xs) (sym (append_assoc run (c ∷ []) cs)) r.outside;
      inside = EachBelongs-snoc true (before ++ gap) run c cs r.inside (ap (λ b. belongs b c cs) (sym r.ends) ∙ h);
      apart = r.apart;
    }

-- the gap takes in one character more
reading_gap : (before gap cs : List ℕ) (c : ℕ) (after : Bool) (from at : ℕ) (word : List ℕ) → IsReading before gap [] (c ∷ cs) after from at word
    → belongs after c cs ≡ false → IsReading before (gap ++ c ∷ []) [] cs (is_word_char c) (at + len_utf8 c) (at + len_utf8 c) []
reading_gap before gap cs c after from at word r h =
    let seam : before ++ (gap ++ c ∷ []) ≡ (before ++ gap ++ []) ++ c ∷ [] =
    sym (append_assoc before gap (c ∷ [])) ∙ ap (λ xs. xs ++ c ∷ []) (sym (append-nil (before ++ gap))) in
    let place : at + len_utf8 c ≡ length (encode_utf8_all (before ++ (gap ++ c ∷ []))) =
    sym (ap (λ xs. length (encode_utf8_all xs)) seam ∙ length-snoc (before ++ gap ++ []) c ∙ ap (λ n. n + len_utf8 c) (sym r.place)) in
    record {
      ends = sym (ap ends_word (append-nil (before ++ (gap ++ c ∷ [])) ∙ seam) ∙ ends_word-snoc (before ++ gap ++ []) c);
      start = place;
      place = place ∙ ap (λ xs. length (encode_utf8_all xs)) (sym (append-nil (before ++ (gap ++ c ∷ []))));
      spelt = refl;
      outside = EachBelongs-snoc false before gap c cs r.outside (ap (λ xs. belongs (ends_word xs) c cs) (sym (append-nil (before ++ gap))) ∙ ap (λ b. belongs b c cs) (sym r.ends) ∙ h);
      inside = tt;
      apart = λ _. snoc-some gap c;
    }

-- a run ends, and a gap begins
reading_next : (before gap run cs : List ℕ) (c : ℕ) (after : Bool) (from at : ℕ) (word : List ℕ) → IsReading before gap run (c ∷ cs) after from at word
    → belongs after c cs ≡ false → IsReading (before ++ gap ++ run) (c ∷ []) [] cs (is_word_char c) (at + len_utf8 c) (at + len_utf8 c) []
reading_next before gap run cs c after from at word r h =
    let place : at + len_utf8 c ≡ length (encode_utf8_all ((before ++ gap ++ run) ++ c ∷ [])) =
    sym (length-snoc (before ++ gap ++ run) c ∙ ap (λ n. n + len_utf8 c) (sym r.place)) in
    record {
      ends = sym (ap ends_word (append-nil ((before ++ gap ++ run) ++ c ∷ [])) ∙ ends_word-snoc (before ++ gap ++ run) c);
      start = place;
      place = place ∙ ap (λ xs. length (encode_utf8_all xs)) (sym (append-nil ((before ++ gap ++ run) ++ c ∷ [])));
      spelt = refl;
      outside = (ap (λ b. belongs b c cs) (sym r.ends) ∙ h, tt);
      inside = tt;
      apart = λ _ e. cc;
    }

-- the word of the run
is_next : (before gap run rest : List ℕ) (d : ℕ) (after : Bool) (from at n : ℕ) (word : List ℕ) → IsReading before gap (d ∷ run) rest after from at word
    → IsNextWord n before gap (d ∷ run) rest (record { term = term_of word; from = from; to = at; number = n })
is_next before gap run rest d after from at n word r =
    record { outside = r.outside; apart = r.apart; inside = r.inside; some = λ e. cc; from = r.start; to = r.place; number = refl; term = ap term_of r.spelt }

-- with no run open, from is the place
no_run : (before gap cs : List ℕ) (after : Bool) (from at : ℕ) (word : List ℕ) → IsReading before gap [] cs after from at word → from ≡ at
no_run before gap cs after from at word r = r.start ∙ ap (λ xs. length (encode_utf8_all xs)) (sym (append-nil (before ++ gap))) ∙ sym r.place

-- with one open it stands before that
a_run : (before gap run cs : List ℕ) (d : ℕ) (after : Bool) (from at : ℕ) (word : List ℕ) → IsReading before gap (d ∷ run) cs after from at word → from < at
a_run before gap run cs d after from at word r = let l = length-run (before ++ gap) d run in omega (arith, l, r.start, r.place)

-- no word is added
laid_none : (n from at : ℕ) (word before left : List ℕ) (later : ℕ → List Word) → from ≡ at → AreLaid n before left (later n)
    → AreLaid n before left (ended n from at word ++ later (n + length (ended n from at word)))
laid_none n from at word before left later e p =
    rw (ended-none n from at word e) (subst (λ (m : ℕ). AreLaid n before left (later m)) (sym (add-zero n)) p)

-- one word is added
laid_one : (n from at : ℕ) (word before left : List ℕ) (later : ℕ → List Word) → from < at
    → AreLaid n before left (record { term = term_of word; from = from; to = at; number = n } ∷ later (n + 1))
    → AreLaid n before left (ended n from at word ++ later (n + length (ended n from at word)))
laid_one n from at word before left later l p = rw (ended-one n from at word l) p

-- what is computed where c belongs to a word
abbrev goes_on : ℕ → ℕ → List ℕ → ℕ → ℕ → List ℕ → List Word
goes_on n c cs from at word = words_from n (is_word_char c) from (at + len_utf8 c) (word ++ encode_utf8 (written c)) cs

-- and where it does not
abbrev stops : ℕ → ℕ → List ℕ → ℕ → ℕ → List ℕ → List Word
stops n c cs from at word =
    ended n from at word ++ words_from (n + length (ended n from at word)) (is_word_char c) (at + len_utf8 c) (at + len_utf8 c) [] cs

-- a character goes over to the run
one_more : (gap run : List ℕ) (c : ℕ) (cs : List ℕ) → gap ++ run ++ c ∷ cs ≡ gap ++ (run ++ c ∷ []) ++ cs
one_more gap run c cs = simp append_assoc

-- a character goes over to the gap
gap_more : (gap : List ℕ) (c : ℕ) (cs : List ℕ) → gap ++ [] ++ c ∷ cs ≡ (gap ++ c ∷ []) ++ [] ++ cs
gap_more gap c cs = simp (append_assoc, append-nil)

-- what is computed from any place on is laid from there on
laid : (cs before gap run left : List ℕ) (n : ℕ) (after : Bool) (from at : ℕ) (word : List ℕ) → left ≡ gap ++ run ++ cs
    → IsReading before gap run cs after from at word → AreLaid n before left (words_from n after from at word cs)
laid [] before gap [] left n after from at word e r =
    rw (ended-none n from at word (no_run before gap [] after from at word r))
    (subst (λ (xs : List ℕ). IsOutside before xs []) (sym (e ∙ append-nil (gap ++ []) ∙ append-nil gap)) r.outside)
laid [] before gap (d ∷ run) left n after from at word e r =
    rw (ended-one n from at word (a_run before gap run [] d after from at word r)) (gap, d ∷ run, [], e, is_next before gap run [] d after from at n word r, tt)
laid (c ∷ cs) before gap [] left n after from at word e r =
    elim (belongs after c cs) as (λ b. belongs after c cs ≡ b → AreLaid n before left (cond b (goes_on n c cs from at word) (stops n c cs from at word))) [
      | true ↦ λ h. laid cs before gap (c ∷ []) left n _ _ _ _ (e ∙ one_more gap [] c cs) (reading_in before gap [] cs c after from at word r h)
      | false ↦ λ h.
          laid_none n from at word before left (λ m. words_from m (is_word_char c) (at + len_utf8 c) (at + len_utf8 c) [] cs)
          (no_run before gap (c ∷ cs) after from at word r)
          (laid cs before (gap ++ c ∷ []) [] left n _ _ _ _ (e ∙ gap_more gap c cs) (reading_gap before gap cs c after from at word r h))
    ] refl
laid (c ∷ cs) before gap (d ∷ run) left n after from at word e r =
    elim (belongs after c cs) as (λ b. belongs after c cs ≡ b → AreLaid n before left (cond b (goes_on n c cs from at word) (stops n c cs from at word))) [
      | true ↦ λ h. laid cs before gap (d ∷ run ++ c ∷ []) left n _ _ _ _ (e ∙ one_more gap (d ∷ run) c cs) (reading_in before gap (d ∷ run) cs c after from at word r h)
      | false ↦ λ h.
          laid_one n from at word before left (λ m. words_from m (is_word_char c) (at + len_utf8 c) (at + len_utf8 c) [] cs)
          (a_run before gap run (c ∷ cs) d after from at word r) (
            gap,
            d ∷ run,
            c ∷ cs,
            e,
            is_next before gap run (c ∷ cs) d after from at n word r,
            laid cs (before ++ gap ++ d ∷ run) (c ∷ []) [] (c ∷ cs) (n + 1) _ _ _ _ refl (reading_next before gap (d ∷ run) cs c after from at word r h),
          )
    ] refl

-- the words that are computed are the words of the text
pub words-AreWords : (text : List ℕ) → AreWords text (words text)
words-AreWords text =
    laid (chars text) [] [] [] (chars text) 1 false 0 0 [] refl (record { ends = refl; start = refl; place = refl; spelt = refl; outside = tt; inside = tt; apart = λ f e. f refl })
