-- Rules: which suffix of a word is taken off, what is put there, and when.
use Rattle.std.specs.Prelude.{ℕ, ◌-◌, Bool, true, ◌&&◌, ◌||◌, if◌then◌else◌, ltb, List, [], ◌∷◌, ◌++◌, length, take, Option, None, Some, codes}
use Rattle.sk_stem.specs.Letters.{measure, has_vowel, ends_in}

-- A suffix, what comes in its place, and what must hold of the stem, which is what stands before the suffix.
pub record Rule : Type 0 where
  pub suffix : List ℕ
  pub replacement : List ℕ
  pub condition : List ℕ → Bool

abbrev pub rule : List ℕ → List ℕ → (List ℕ → Bool) → Rule
rule suffix replacement condition = record { suffix = suffix; replacement = replacement; condition = condition }

-- The word without so many letters at its end.
abbrev pub without_last : ℕ → List ℕ → List ℕ
without_last n word = take (length word - n) word

-- What stands before the rule's suffix.
abbrev pub before : Rule → List ℕ → List ℕ
before r word = without_last (length r.suffix) word

-- Of two rules the one with the longer suffix.
abbrev pub longer : Rule → Option Rule → Option Rule
longer r None = Some r
longer r (Some s) = if ltb (length r.suffix) (length s.suffix) then Some s else Some r

-- The rule of the longest suffix that the word ends with.
abbrev pub longest : List ℕ → List Rule → Option Rule
longest word [] = None
longest word (r ∷ rs) = if ends_in r.suffix word then longer r (longest word rs) else longest word rs

-- The word after a rule, which changes nothing where its condition does not hold.
abbrev pub by_rule : List ℕ → Option Rule → List ℕ
by_rule word None = word
by_rule word (Some r) = if r.condition (before r word) then before r word ++ r.replacement else word

-- The word after the rules: the one of the longest suffix is looked at, and only that one.
unfoldable pub by_rules : List Rule → List ℕ → List ℕ
by_rules rules word = by_rule word (longest word rules)

-- No condition.
abbrev pub always : List ℕ → Bool
always stem = true

-- m > 0
abbrev pub measure_above_0 : List ℕ → Bool
measure_above_0 stem = ltb 0 (measure stem)

-- m > 1
abbrev pub measure_above_1 : List ℕ → Bool
measure_above_1 stem = ltb 1 (measure stem)

-- m > 1, and the stem ends with s or t
abbrev pub measure_above_1_after_s_or_t : List ℕ → Bool
measure_above_1_after_s_or_t stem = measure_above_1 stem && (ends_in (codes "s") stem || ends_in (codes "t") stem)

-- Plurals.
unfoldable pub rules_1a : List Rule
rules_1a =
    rule (codes "sses") (codes "ss") always
    ∷ rule (codes "ies") (codes "i") always
    ∷ rule (codes "ss") (codes "ss") always
    ∷ rule (codes "s") [] always
    ∷ []

-- What completes a word from which ed or ing was taken off.
unfoldable pub rules_completing : List Rule
rules_completing =
    rule (codes "at") (codes "ate") always
    ∷ rule (codes "bl") (codes "ble") always
    ∷ rule (codes "iz") (codes "ize") always
    ∷ []

-- A last y after a vowel before it.
unfoldable pub rules_1c : List Rule
rules_1c = rule (codes "y") (codes "i") has_vowel ∷ []

-- Double suffixes.
unfoldable pub rules_2 : List Rule
rules_2 =
    rule (codes "ational") (codes "ate") measure_above_0
    ∷ rule (codes "tional") (codes "tion") measure_above_0
    ∷ rule (codes "enci") (codes "ence") measure_above_0
    ∷ rule (codes "anci") (codes "ance") measure_above_0
    ∷ rule (codes "izer") (codes "ize") measure_above_0
    ∷ rule (codes "abli") (codes "able") measure_above_0
    ∷ rule (codes "alli") (codes "al") measure_above_0
    ∷ rule (codes "entli") (codes "ent") measure_above_0
    ∷ rule (codes "eli") (codes "e") measure_above_0
    ∷ rule (codes "ousli") (codes "ous") measure_above_0
    ∷ rule (codes "ization") (codes "ize") measure_above_0
    ∷ rule (codes "ation") (codes "ate") measure_above_0
    ∷ rule (codes "ator") (codes "ate") measure_above_0
    ∷ rule (codes "alism") (codes "al") measure_above_0
    ∷ rule (codes "iveness") (codes "ive") measure_above_0
    ∷ rule (codes "fulness") (codes "ful") measure_above_0
    ∷ rule (codes "ousness") (codes "ous") measure_above_0
    ∷ rule (codes "aliti") (codes "al") measure_above_0
    ∷ rule (codes "iviti") (codes "ive") measure_above_0
    ∷ rule (codes "biliti") (codes "ble") measure_above_0
    ∷ []

-- What is left of double suffixes, and a few more.
unfoldable pub rules_3 : List Rule
rules_3 =
    rule (codes "icate") (codes "ic") measure_above_0
    ∷ rule (codes "ative") [] measure_above_0
    ∷ rule (codes "alize") (codes "al") measure_above_0
    ∷ rule (codes "iciti") (codes "ic") measure_above_0
    ∷ rule (codes "ical") (codes "ic") measure_above_0
    ∷ rule (codes "ful") [] measure_above_0
    ∷ rule (codes "ness") [] measure_above_0
    ∷ []

-- Single suffixes.
unfoldable pub rules_4 : List Rule
rules_4 =
    rule (codes "al") [] measure_above_1
    ∷ rule (codes "ance") [] measure_above_1
    ∷ rule (codes "ence") [] measure_above_1
    ∷ rule (codes "er") [] measure_above_1
    ∷ rule (codes "ic") [] measure_above_1
    ∷ rule (codes "able") [] measure_above_1
    ∷ rule (codes "ible") [] measure_above_1
    ∷ rule (codes "ant") [] measure_above_1
    ∷ rule (codes "ement") [] measure_above_1
    ∷ rule (codes "ment") [] measure_above_1
    ∷ rule (codes "ent") [] measure_above_1
    ∷ rule (codes "ion") [] measure_above_1_after_s_or_t
    ∷ rule (codes "ou") [] measure_above_1
    ∷ rule (codes "ism") [] measure_above_1
    ∷ rule (codes "ate") [] measure_above_1
    ∷ rule (codes "iti") [] measure_above_1
    ∷ rule (codes "ous") [] measure_above_1
    ∷ rule (codes "ive") [] measure_above_1
    ∷ rule (codes "ize") [] measure_above_1
    ∷ []
