-- The stem of a word, by Porter's algorithm for suffix stripping (1980), as a function on whole words.
use Rattle.std.specs.Prelude.{ℕ, Bool, not, ◌&&◌, ◌||◌, ◌==◌, if◌then◌else◌, leb, List, ◌++◌, length, codes, Option, None, Some}
use Rattle.std.specs.Char.{is_ascii_lowercase}
use Rattle.std.specs.List.{list_all}
use Rattle.sk_stem.specs.Letters.{measure, has_vowel, ends_in, ends_double, ends_cvc}
use Rattle.sk_stem.specs.Rules.{Rule, longest, by_rule, without_last, by_rules, measure_above_0, measure_above_1, rules_1a, rules_completing, rules_1c, rules_2, rules_3, rules_4}

-- 1a: caresses to caress, ponies to poni, cats to cat.
unfoldable pub step_1a : List ℕ → List ℕ
step_1a word = by_rules rules_1a word

-- A word from which ed or ing was taken off, where none of at, bl and iz ends it: hopp to hop, fil to file.
abbrev pub repaired : List ℕ → List ℕ
repaired word =
    if ends_double word && not (ends_in (codes "l") word || ends_in (codes "s") word || ends_in (codes "z") word) then without_last 1 word
    else if measure word == 1 && ends_cvc word then word ++ codes "e"
    else word

-- The word after the completing rule that is looked at, or repaired where there is none.
abbrev pub completed_by : List ℕ → Option Rule → List ℕ
completed_by word None = repaired word
completed_by word (Some r) = by_rule word (Some r)

-- A word from which ed or ing was taken off: conflat to conflate, troubl to trouble, siz to size, and else as above.
abbrev pub completed : List ℕ → List ℕ
completed word = completed_by word (longest word rules_completing)

-- The word where this many letters at its end are ed or ing: they go where a vowel stands before them, and what is left is completed.
abbrev pub stripped : ℕ → List ℕ → List ℕ
stripped n word = if has_vowel (without_last n word) then completed (without_last n word) else word

-- 1b: agreed to agree, hopping to hop, hoping to hope.
unfoldable pub step_1b : List ℕ → List ℕ
step_1b word =
    if ends_in (codes "eed") word then (if measure_above_0 (without_last 3 word) then without_last 1 word else word)
    else if ends_in (codes "ed") word then stripped 2 word
    else if ends_in (codes "ing") word then stripped 3 word
    else word

-- 1c: happy to happi, sky stays.
unfoldable pub step_1c : List ℕ → List ℕ
step_1c word = by_rules rules_1c word

-- 2: relational to relate.
unfoldable pub step_2 : List ℕ → List ℕ
step_2 word = by_rules rules_2 word

-- 3: triplicate to triplic.
unfoldable pub step_3 : List ℕ → List ℕ
step_3 word = by_rules rules_3 word

-- 4: adoption to adopt.
unfoldable pub step_4 : List ℕ → List ℕ
step_4 word = by_rules rules_4 word

-- The last e goes from this stem.
abbrev pub loses_e : List ℕ → Bool
loses_e stem = measure_above_1 stem || (measure stem == 1 && not (ends_cvc stem))

-- 5a: probate to probat, rate stays, cease to ceas.
unfoldable pub step_5a : List ℕ → List ℕ
step_5a word = if ends_in (codes "e") word && loses_e (without_last 1 word) then without_last 1 word else word

-- 5b: controll to control, roll stays.
unfoldable pub step_5b : List ℕ → List ℕ
step_5b word = if ends_in (codes "ll") word && measure_above_1 (without_last 1 word) then without_last 1 word else word

-- The steps, one after the other.
abbrev pub after_all_steps : List ℕ → List ℕ
after_all_steps word = step_5b (step_5a (step_4 (step_3 (step_2 (step_1c (step_1b (step_1a word)))))))

-- Three letters or more, each from a to z.
abbrev pub is_stemmed : List ℕ → Bool
is_stemmed word = leb 3 (length word) && list_all is_ascii_lowercase word

-- The stem of a word. One that has fewer than three letters, or any byte but a to z, is its own stem.
unfoldable pub stem : List ℕ → List ℕ
stem word = if is_stemmed word then after_all_steps word else word
