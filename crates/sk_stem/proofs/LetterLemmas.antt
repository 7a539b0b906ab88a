-- What the loops over the letters of a word keep.
use Rattle.std.proofs.Common.{◌≡◌, ℕ, suc, ◌-◌, ◌≤◌, ◌<◌, Bool, true, false, not, ◌&&◌, ◌||◌, ◌==◌, List, [], ◌∷◌, length, drop, get_or, refl, sym, ap, ◌∙◌, subst, arith}
use Rattle.std.specs.Bool.{beq}
use Rattle.std.specs.Cmp.Lexicographic.{pointwise}
use Rattle.std.specs.List.{ends_with}
use Rattle.std.proofs.lemmas.Bool.{eqb-true}
use Rattle.sk_stem.specs.Letters.{consonant, vowel, is_aeiou, mark, marks_from, ends_twice, ends_double}

-- a list ends with what it ended with before one more stands in front of it, if that is no longer
pub ends_with-tail : {X : Type 0} (eq : X → X → Bool) (x : X) (xs pattern : List X) → length pattern ≤ length xs → ends_with eq (x ∷ xs) pattern ≡ ends_with eq xs pattern
ends_with-tail eq x xs pattern le =
    let e : suc (length xs) - length pattern ≡ suc (length xs - length pattern) = omega arith in
    ap (λ n. pointwise eq pattern (drop n (x ∷ xs))) e

-- whether marks end with consonant, vowel, consonant, where those before them do (`cvc`), end with consonant and vowel (`cv`), and end with a
-- consonant (`c`)
abbrev pub ends_cvc_from : Bool → Bool → Bool → List Bool → Bool
ends_cvc_from cvc cv c [] = cvc
ends_cvc_from cvc cv c (m ∷ ms) = ends_cvc_from (cv && not m) (c && m) (not m) ms

abbrev cvc_pattern : List Bool
cvc_pattern = consonant ∷ vowel ∷ consonant ∷ []

-- behind three marks
cvc_behind : (a b c : Bool) (ms : List Bool) → ends_cvc_from (not a && b && not c) (not b && c) (not c) ms ≡ ends_with beq (a ∷ b ∷ c ∷ ms) cvc_pattern
cvc_behind true true true [] = refl
cvc_behind true true false [] = refl
cvc_behind true false true [] = refl
cvc_behind true false false [] = refl
cvc_behind false true true [] = refl
cvc_behind false true false [] = refl
cvc_behind false false true [] = refl
cvc_behind false false false [] = refl
cvc_behind a b c (m ∷ ms) = cvc_behind b c m ms ∙ sym (ends_with-tail beq a (b ∷ c ∷ m ∷ ms) cvc_pattern (omega arith))

pub ends_cvc_from-start : (ms : List Bool) → ends_cvc_from false false false ms ≡ ends_with beq ms cvc_pattern
ends_cvc_from-start [] = refl
ends_cvc_from-start (true ∷ []) = refl
ends_cvc_from-start (false ∷ []) = refl
ends_cvc_from-start (true ∷ true ∷ []) = refl
ends_cvc_from-start (true ∷ false ∷ []) = refl
ends_cvc_from-start (false ∷ true ∷ []) = refl
ends_cvc_from-start (false ∷ false ∷ []) = refl
ends_cvc_from-start (true ∷ true ∷ c ∷ ms) = cvc_behind true true c ms
ends_cvc_from-start (true ∷ false ∷ c ∷ ms) = cvc_behind true false c ms
ends_cvc_from-start (false ∷ true ∷ c ∷ ms) = cvc_behind false true c ms
ends_cvc_from-start (false ∷ false ∷ c ∷ ms) = cvc_behind false false c ms

abbrev cc_pattern : List Bool
cc_pattern = consonant ∷ consonant ∷ []

-- of the same letter twice, both are consonants where it is one even right after a consonant
twice_marked : (is_a is_y after : Bool) → ends_with beq ((is_a || (is_y && after)) ∷ (is_a || (is_y && not (is_a || (is_y && after)))) ∷ []) cc_pattern ≡ not (is_a || (is_y && true))
twice_marked true y f = refl
twice_marked false true true = refl
twice_marked false true false = refl
twice_marked false false f = refl

-- two letters
two_letters : (after : Bool) (c d : ℕ) (b : Bool) → (c == d) ≡ b → (b && ends_with beq (marks_from after (c ∷ d ∷ [])) cc_pattern) ≡ (b && not (mark true d))
two_letters after c d false e = refl
two_letters after c d true e =
    let same : c ≡ d = eqb-true c d e in
    subst (λ x. ends_with beq (marks_from after (c ∷ x ∷ [])) cc_pattern ≡ not (mark true x)) same (twice_marked (is_aeiou c) (c == 121) after)

-- the last letter, and the one before it
abbrev last : List ℕ → ℕ
last word = get_or word (length word - 1) 0

abbrev last_but_one : List ℕ → ℕ
last_but_one word = get_or word (length word - 2) 0

double_from : (after : Bool) (c d : ℕ) (cs : List ℕ)
    → (ends_twice (c ∷ d ∷ cs) && ends_with beq (marks_from after (c ∷ d ∷ cs)) cc_pattern) ≡ ((last_but_one (c ∷ d ∷ cs) == last (c ∷ d ∷ cs)) && not (mark true (last (c ∷ d ∷ cs))))
double_from after c d [] = two_letters after c d (c == d) refl
double_from after c d (e ∷ cs) =
    let two : suc (suc (suc (length cs))) - 2 ≡ suc (suc (suc (length cs)) - 2) = omega arith in
    let one : suc (suc (suc (length cs))) - 1 ≡ suc (suc (suc (length cs)) - 1) = omega arith in
    ap (λ b. ends_twice (d ∷ e ∷ cs) && b) (ends_with-tail beq (mark after c) (marks_from (not (mark after c)) (d ∷ e ∷ cs)) cc_pattern (omega arith))
    ∙ double_from (not (mark after c)) d e cs
    ∙ sym (λ i. (get_or (c ∷ d ∷ e ∷ cs) (two i) 0 == get_or (c ∷ d ∷ e ∷ cs) (one i) 0) && not (mark true (get_or (c ∷ d ∷ e ∷ cs) (one i) 0)))

-- whether a word ends with two equal consonants, by its last two letters
pub ends_double-last : (word : List ℕ) → 2 ≤ length word → ends_double word ≡ ((get_or word (length word - 2) 0 == get_or word (length word - 1) 0) && not (mark true (get_or word (length word - 1) 0)))
ends_double-last [] le = absurd (omega arith)
ends_double-last (c ∷ []) le = absurd (omega arith)
ends_double-last (c ∷ d ∷ cs) le = double_from false c d cs

-- a word of one letter, or none, does not
pub ends_double-short : (word : List ℕ) → length word < 2 → ends_double word ≡ false
ends_double-short [] lt = refl
ends_double-short (c ∷ []) lt = refl
ends_double-short (c ∷ d ∷ cs) lt = absurd (omega arith)
