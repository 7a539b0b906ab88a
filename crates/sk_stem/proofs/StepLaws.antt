-- What each step keeps: no word grows, letters from a to z stay such letters, and something is left.
use Rattle.std.proofs.Common.{◌≡◌, ◌⊎◌, inl, inr, ℕ, ◌+◌, ◌-◌, ◌≤◌, Bool, true, false, not, ◌&&◌, ◌||◌, ◌==◌, if◌then◌else◌, ltb, leb, Option, Some, None, List, [], ◌∷◌, ◌++◌, length, take, drop, codes, refl, sym, ap, ◌∙◌, subst, arith, length-append}
use Rattle.std.specs.Char.{is_ascii_lowercase}
use Rattle.std.specs.List.{list_all}
use Rattle.std.proofs.lemmas.Bool.Decides.{nat_tests}
use Rattle.std.proofs.lemmas.List.{length-take, take-append-drop}
use Rattle.std.proofs.lemmas.List.Folds.{list_all-append}
use Rattle.std.specs.Cmp.Derive.{both_true}
use Rattle.sk_stem.specs.Letters.{measure, has_vowel, ends_in, ends_double, ends_cvc}
use Rattle.sk_stem.specs.Rules.{Rule, without_last, before, longest, by_rule, by_rules, measure_above_0, measure_above_1, rules_1a, rules_1c, rules_2, rules_3, rules_4}
use Rattle.sk_stem.specs.Stems.{step_1a, step_1b, step_1c, step_2, step_3, step_4, step_5a, step_5b, repaired, completed, stripped, loses_e}
use Rattle.sk_stem.proofs.RuleLemmas.{both, Passes, longest-passes, ends_in-length}
use Rattle.sk_stem.proofs.StepLemmas.{completed-adds_e, completed-repaired}

-- only letters from a to z
abbrev pub are_letters : List ℕ → Bool
are_letters word = list_all is_ascii_lowercase word

-- `new` has at most so many letters more than `old`, all of them from a to z if those of `old` are
pub record Grows (most : ℕ) (old new : List ℕ) : Type 0 where
  pub size : length new ≤ length old + most
  pub letters : are_letters old ≡ true → are_letters new ≡ true

pub grows_not : (most : ℕ) (word : List ℕ) → Grows most word word
grows_not most word = record { size = omega arith; letters = λ all. all }

pub then_grows : (a b c : List ℕ) → Grows 0 a b → Grows 0 b c → Grows 0 a c
then_grows a b c f g = let p = f.size in let q = g.size in record { size = omega arith; letters = λ all. g.letters (f.letters all) }

pick : (most : ℕ) (b : Bool) (old x y : List ℕ) → Grows most old x → Grows most old y → Grows most old (if b then x else y)
pick most true old x y f g = f
pick most false old x y f g = g

-- the front of letters
front_letters : (n : ℕ) (word : List ℕ) → are_letters word ≡ true → are_letters (take n word) ≡ true
front_letters n word all =
    let whole : (are_letters (take n word) && are_letters (drop n word)) ≡ true =
    sym (list_all-append is_ascii_lowercase (take n word) (drop n word)) ∙ ap are_letters (take-append-drop n word) ∙ all in
    (both _ _ whole).0

joined_letters : (a b : List ℕ) → are_letters a ≡ true → are_letters b ≡ true → are_letters (a ++ b) ≡ true
joined_letters a b p q = list_all-append is_ascii_lowercase a b ∙ both_true p q

-- how many letters are left
pub length-without_last : (n : ℕ) (word : List ℕ) → length (without_last n word) ≡ length word - n
length-without_last n word = length-take (length word - n) word ∙ omega arith

without_last-grows : (most n : ℕ) (word : List ℕ) → Grows most word (without_last n word)
without_last-grows most n word = let size = length-without_last n word in record { size = omega arith; letters = front_letters (length word - n) word }

with_e-grows : (word : List ℕ) → Grows 1 word (word ++ codes "e")
with_e-grows word = record { size = simp (length-append) (omega arith); letters = λ all. joined_letters word (codes "e") all refl }

-- a rule that makes no word longer, and puts letters
abbrev is_safe : Rule → Bool
is_safe r = leb (length r.replacement) (length r.suffix) && are_letters r.replacement

rule_size : (r : Rule) (word : List ℕ) → length r.suffix ≤ length word → length r.replacement ≤ length r.suffix → length (before r word ++ r.replacement) ≤ length word + 0
rule_size r word fits less =
    let whole : length (before r word ++ r.replacement) ≡ length (before r word) + length r.replacement = length-append (before r word) r.replacement in
    let front : length (before r word) ≡ length word - length r.suffix = length-without_last (length r.suffix) word in
    omega arith

ruled_by : (word : List ℕ) (r : Rule) (b : Bool) → Passes is_safe word r → Grows 0 word (if b then before r word ++ r.replacement else word)
ruled_by word r false passes = grows_not 0 word
ruled_by word r true passes =
    let safe = both (leb (length r.replacement) (length r.suffix)) (are_letters r.replacement) passes.1 in
    let less : length r.replacement ≤ length r.suffix = let e = safe.0 in grind (arith, nat_tests) in
    record {
      size = rule_size r word (ends_in-length r.suffix word passes.0) less;
      letters = λ all. joined_letters (before r word) r.replacement (front_letters (length word - length r.suffix) word all) safe.1;
    }

ruled : (word : List ℕ) (o : Option Rule) → ((r : Rule) → o ≡ Some r → Passes is_safe word r) → Grows 0 word (by_rule word o)
ruled word None passes = grows_not 0 word
ruled word (Some r) passes = ruled_by word r (r.condition (before r word)) (passes r refl)

by_rules-grows : (rules : List Rule) (word : List ℕ) → list_all is_safe rules ≡ true → Grows 0 word (by_rules rules word)
unfolding by_rules
by_rules-grows rules word safe = ruled word (longest word rules) (λ r. longest-passes is_safe word rules r safe)

pub step_1a-grows : (word : List ℕ) → Grows 0 word (step_1a word)
unfolding step_1a rules_1a
step_1a-grows word = by_rules-grows rules_1a word refl

pub step_1c-grows : (word : List ℕ) → Grows 0 word (step_1c word)
unfolding step_1c rules_1c
step_1c-grows word = by_rules-grows rules_1c word refl

pub step_2-grows : (word : List ℕ) → Grows 0 word (step_2 word)
unfolding step_2 rules_2
step_2-grows word = by_rules-grows rules_2 word refl

pub step_3-grows : (word : List ℕ) → Grows 0 word (step_3 word)
unfolding step_3 rules_3
step_3-grows word = by_rules-grows rules_3 word refl

pub step_4-grows : (word : List ℕ) → Grows 0 word (step_4 word)
unfolding step_4 rules_4
step_4-grows word = by_rules-grows rules_4 word refl

repaired-grows : (word : List ℕ) → Grows 1 word (repaired word)
repaired-grows word =
    pick 1 _ word _ _ (without_last-grows 1 1 word) (pick 1 (measure word == 1 && ends_cvc word) word _ _ (with_e-grows word) (grows_not 1 word))

completed_by_test : (word : List ℕ) (b : Bool) → (ends_in (codes "at") word || ends_in (codes "bl") word || ends_in (codes "iz") word) ≡ b
    → (completed word ≡ word ++ codes "e") ⊎ (completed word ≡ repaired word)
completed_by_test word true e = inl (completed-adds_e word e)
completed_by_test word false e = inr (completed-repaired word e)

-- with an e behind it, or repaired
completed_either : (word : List ℕ) → (completed word ≡ word ++ codes "e") ⊎ (completed word ≡ repaired word)
completed_either word = completed_by_test word (ends_in (codes "at") word || ends_in (codes "bl") word || ends_in (codes "iz") word) refl

completed_grows : (word : List ℕ) → Grows 1 word (completed word)
completed_grows word =
    elim (completed_either word) [ inl e ↦ subst (Grows 1 word) (sym e) (with_e-grows word) | inr e ↦ subst (Grows 1 word) (sym e) (repaired-grows word) ]

-- from a word without its last letters, which are some, to that word with one letter more at most
taken_off_grows : (n : ℕ) (word new : List ℕ) → 1 ≤ n → 1 ≤ length (without_last n word) → Grows 1 (without_last n word) new → Grows 0 word new
taken_off_grows n word new some left grows =
    let size = length-without_last n word in
    let more = grows.size in
    record { size = omega arith; letters = λ all. grows.letters (front_letters (length word - n) word all) }

-- a vowel is a letter
pub has_vowel-some : (word : List ℕ) → has_vowel word ≡ true → 1 ≤ length word
has_vowel-some [] e = cc
has_vowel-some (c ∷ cs) e = omega arith

stripped_by : (n : ℕ) (word : List ℕ) (b : Bool) → 1 ≤ n → has_vowel (without_last n word) ≡ b → Grows 0 word (if b then completed (without_last n word) else word)
stripped_by n word false some e = grows_not 0 word
stripped_by n word true some e = taken_off_grows n word (completed (without_last n word)) some (has_vowel-some (without_last n word) e) (completed_grows (without_last n word))

stripped_grows : (n : ℕ) (word : List ℕ) → 1 ≤ n → Grows 0 word (stripped n word)
stripped_grows n word some = stripped_by n word (has_vowel (without_last n word)) some refl

pub step_1b-grows : (word : List ℕ) → Grows 0 word (step_1b word)
unfolding step_1b
step_1b-grows word =
    pick 0 (ends_in (codes "eed") word) word _ _ (pick 0 (measure_above_0 (without_last 3 word)) word _ _ (without_last-grows 0 1 word) (grows_not 0 word))
    (pick 0 (ends_in (codes "ed") word) word _ _ (stripped_grows 2 word (omega arith))
    (pick 0 (ends_in (codes "ing") word) word _ _ (stripped_grows 3 word (omega arith)) (grows_not 0 word)))

pub step_5a-grows : (word : List ℕ) → Grows 0 word (step_5a word)
unfolding step_5a
step_5a-grows word = pick 0 (ends_in (codes "e") word && loses_e (without_last 1 word)) word _ _ (without_last-grows 0 1 word) (grows_not 0 word)

pub step_5b-grows : (word : List ℕ) → Grows 0 word (step_5b word)
unfolding step_5b
step_5b-grows word = pick 0 (ends_in (codes "ll") word && measure_above_1 (without_last 1 word)) word _ _ (without_last-grows 0 1 word) (grows_not 0 word)

-- ---- Something is left.

-- a rule that puts letters, or has a condition that no empty stem meets
abbrev leaves : Rule → Bool
leaves r = ltb 0 (length r.replacement) || not (r.condition [])

left_behind : (stem replacement : List ℕ) (condition : List ℕ → Bool) → condition stem ≡ true → (ltb 0 (length replacement) || not (condition [])) ≡ true → 1 ≤ length (stem ++ replacement)
left_behind [] [] condition e h = let same : not (condition []) ≡ not true = ap not e in cc
left_behind [] (c ∷ cs) condition e h = omega arith
left_behind (c ∷ cs) replacement condition e h = omega arith

left_by : (word : List ℕ) (r : Rule) (b : Bool) → r.condition (before r word) ≡ b → leaves r ≡ true → 1 ≤ length word → 1 ≤ length (if b then before r word ++ r.replacement else word)
left_by word r false e h some = some
left_by word r true e h some = left_behind (before r word) r.replacement r.condition e h

left_of : (word : List ℕ) (o : Option Rule) → ((r : Rule) → o ≡ Some r → leaves r ≡ true) → 1 ≤ length word → 1 ≤ length (by_rule word o)
left_of word None h some = some
left_of word (Some r) h some = left_by word r (r.condition (before r word)) refl (h r refl) some

by_rules-some : (rules : List Rule) (word : List ℕ) → list_all leaves rules ≡ true → 1 ≤ length word → 1 ≤ length (by_rules rules word)
unfolding by_rules
by_rules-some rules word all some = left_of word (longest word rules) (λ r e. (longest-passes leaves word rules r all e).1) some

pub step_1c-some : (word : List ℕ) → 1 ≤ length word → 1 ≤ length (step_1c word)
unfolding step_1c rules_1c
step_1c-some word some = by_rules-some rules_1c word refl some

pub step_2-some : (word : List ℕ) → 1 ≤ length word → 1 ≤ length (step_2 word)
unfolding step_2 rules_2
step_2-some word some = by_rules-some rules_2 word refl some

pub step_3-some : (word : List ℕ) → 1 ≤ length word → 1 ≤ length (step_3 word)
unfolding step_3 rules_3
step_3-some word some = by_rules-some rules_3 word refl some

pub step_4-some : (word : List ℕ) → 1 ≤ length word → 1 ≤ length (step_4 word)
unfolding step_4 rules_4
step_4-some word some = by_rules-some rules_4 word refl some

-- a rule that puts letters, or takes one letter off
abbrev leaves_of_two : Rule → Bool
leaves_of_two r = ltb 0 (length r.replacement) || leb (length r.suffix) 1

left_of_two_by : (word : List ℕ) (r : Rule) (b : Bool) → leaves_of_two r ≡ true → 2 ≤ length word → 1 ≤ length (if b then before r word ++ r.replacement else word)
left_of_two_by word r false h two = omega arith
left_of_two_by word r true h two =
    let whole : length (before r word ++ r.replacement) ≡ length (before r word) + length r.replacement = length-append (before r word) r.replacement in
    let front : length (before r word) ≡ length word - length r.suffix = length-without_last (length r.suffix) word in
    by_parts (length r.replacement) (length r.suffix) h two whole front
  where
    by_parts : (x y : ℕ) → (ltb 0 x || leb y 1) ≡ true → 2 ≤ length word → length (before r word ++ r.replacement) ≡ length (before r word) + x → length (before r word) ≡ length word - y
        → 1 ≤ length (before r word ++ r.replacement)
    by_parts x y h two whole front = grind (arith, nat_tests)

left_of_two : (word : List ℕ) (o : Option Rule) → ((r : Rule) → o ≡ Some r → leaves_of_two r ≡ true) → 2 ≤ length word → 1 ≤ length (by_rule word o)
left_of_two word None h two = omega arith
left_of_two word (Some r) h two = left_of_two_by word r (r.condition (before r word)) (h r refl) two

pub step_1a-some : (word : List ℕ) → 2 ≤ length word → 1 ≤ length (step_1a word)
unfolding step_1a by_rules rules_1a
step_1a-some word two = left_of_two word (longest word rules_1a) (λ r e. (longest-passes leaves_of_two word rules_1a r refl e).1) two

some_of : (b : Bool) (x y : List ℕ) → (b ≡ true → 1 ≤ length x) → 1 ≤ length y → 1 ≤ length (if b then x else y)
some_of true x y f g = f refl
some_of false x y f g = g

-- of two consonants one is left
repaired_some : (word : List ℕ) → 1 ≤ length word → 1 ≤ length (repaired word)
repaired_some [] some = absurd (omega arith)
repaired_some (c ∷ []) some = some_of (measure (c ∷ []) == 1 && ends_cvc (c ∷ [])) (c ∷ codes "e") (c ∷ []) (λ _. omega arith) (omega arith)
repaired_some (c ∷ d ∷ cs) some =
    let word = c ∷ d ∷ cs in
    let size : length (without_last 1 word) ≡ length word - 1 = length-without_last 1 word in
    let more : length (word ++ codes "e") ≡ length word + 1 = length-append word (codes "e") in
    some_of (ends_double word && not (ends_in (codes "l") word || ends_in (codes "s") word || ends_in (codes "z") word)) (without_last 1 word) _ (λ _. omega arith)
    (some_of (measure word == 1 && ends_cvc word) (word ++ codes "e") word (λ _. omega arith) some)

completed_some : (word : List ℕ) → 1 ≤ length word → 1 ≤ length (completed word)
completed_some word some =
    let IsLeft : List ℕ → Type 0 = λ w. 1 ≤ length w in
    let more : length (word ++ codes "e") ≡ length word + 1 = length-append word (codes "e") in
    elim (completed_either word) [ inl e ↦ subst IsLeft (sym e) (omega arith) | inr e ↦ subst IsLeft (sym e) (repaired_some word some) ]

stripped_some : (n : ℕ) (word : List ℕ) → 1 ≤ length word → 1 ≤ length (stripped n word)
stripped_some n word some =
    some_of (has_vowel (without_last n word)) (completed (without_last n word)) word (λ e. completed_some (without_last n word) (has_vowel-some (without_last n word) e)) some

pub step_1b-some : (word : List ℕ) → 1 ≤ length word → 1 ≤ length (step_1b word)
unfolding step_1b
step_1b-some word some =
    let size = length-without_last 1 word in
    some_of (ends_in (codes "eed") word) _ _ (λ e. let three = ends_in-length (codes "eed") word e in some_of (measure_above_0 (without_last 3 word)) (without_last 1 word) word (λ _. omega arith) some)
    (some_of (ends_in (codes "ed") word) _ _ (λ _. stripped_some 2 word some) (some_of (ends_in (codes "ing") word) _ _ (λ _. stripped_some 3 word some) some))

-- a stem that loses an e has letters, and so has one of this measure
loses_e-some : (stem : List ℕ) → loses_e stem ≡ true → 1 ≤ length stem
loses_e-some [] e = cc
loses_e-some (c ∷ cs) e = omega arith

measure_above_1-some : (stem : List ℕ) → measure_above_1 stem ≡ true → 1 ≤ length stem
measure_above_1-some [] e = cc
measure_above_1-some (c ∷ cs) e = omega arith

pub step_5a-some : (word : List ℕ) → 1 ≤ length word → 1 ≤ length (step_5a word)
unfolding step_5a
step_5a-some word some =
    some_of (ends_in (codes "e") word && loses_e (without_last 1 word)) (without_last 1 word) word (λ e. loses_e-some (without_last 1 word) (both _ _ e).1) some

pub step_5b-some : (word : List ℕ) → 1 ≤ length word → 1 ≤ length (step_5b word)
unfolding step_5b
step_5b-some word some =
    some_of (ends_in (codes "ll") word && measure_above_1 (without_last 1 word)) (without_last 1 word) word (λ e. measure_above_1-some (without_last 1 word) (both _ _ e).1) some
