-- Words with their stems, worked out by hand from the rules.
use Rattle.std.proofs.Common.{◌≡◌, ℕ, Bool, true, List, [], ◌∷◌, codes, bytes_eq, map, refl}
use Rattle.std.specs.List.{list_all}
use Rattle.sk_stem.specs.Letters.{measure}
use Rattle.sk_stem.specs.Rules.{by_rules, rules_1a, rules_completing, rules_1c, rules_2, rules_3, rules_4}
use Rattle.sk_stem.specs.Stems.{stem, step_1a, step_1b, step_1c, step_2, step_3, step_4, step_5a, step_5b}

-- a word, and the stem that it must have
record Row : Type 0 where
  word : List ℕ
  wanted : List ℕ

abbrev row : List ℕ → List ℕ → Row
row word wanted = record { word = word; wanted = wanted }

-- each word has the stem that it must have
abbrev are_right : List Row → Bool
are_right rows = list_all (λ (r : Row). bytes_eq (stem r.word) r.wanted) rows

no_measure : map measure (codes "tr" ∷ codes "ee" ∷ codes "tree" ∷ codes "y" ∷ codes "by" ∷ []) ≡ 0 ∷ 0 ∷ 0 ∷ 0 ∷ 0 ∷ []
no_measure = refl

measure_1 : map measure (codes "trouble" ∷ codes "oats" ∷ codes "trees" ∷ codes "ivy" ∷ []) ≡ 1 ∷ 1 ∷ 1 ∷ 1 ∷ []
measure_1 = refl

measure_2 : map measure (codes "troubles" ∷ codes "private" ∷ codes "oaten" ∷ codes "orrery" ∷ []) ≡ 2 ∷ 2 ∷ 2 ∷ 2 ∷ []
measure_2 = refl

-- Step 1a, the rules and their order.
plurals :
    are_right
    (row (codes "caresses") (codes "caress")
    ∷ row (codes "ponies") (codes "poni")
    ∷ row (codes "ties") (codes "ti")
    ∷ row (codes "caress") (codes "caress")
    ∷ row (codes "cats") (codes "cat")
    ∷ row (codes "gas") (codes "ga")
    ∷ row (codes "ies") (codes "i")
    ∷ row (codes "sss") (codes "sss")
    ∷ row (codes "yes") (codes "ye")
    ∷ [])
    ≡ true
unfolding stem step_1a step_1b step_1c step_2 step_3 step_4 step_5a step_5b by_rules rules_1a rules_completing rules_1c rules_2 rules_3 rules_4
plurals = refl

-- Step 1b: eed with a measure before it and without, ed and ing with a vowel before them and without.
with_eed_ed_and_ing :
    are_right
    (row (codes "agreed") (codes "agre")
    ∷ row (codes "feed") (codes "feed")
    ∷ row (codes "eed") (codes "eed")
    ∷ row (codes "plastered") (codes "plaster")
    ∷ row (codes "bled") (codes "bled")
    ∷ row (codes "motoring") (codes "motor")
    ∷ row (codes "sing") (codes "sing")
    ∷ row (codes "ing") (codes "ing")
    ∷ row (codes "dyed") (codes "dy")
    ∷ row (codes "eyed") (codes "ei")
    ∷ [])
    ≡ true
unfolding stem step_1a step_1b step_1c step_2 step_3 step_4 step_5a step_5b by_rules rules_1a rules_completing rules_1c rules_2 rules_3 rules_4
with_eed_ed_and_ing = refl

-- What follows where ed or ing went: at, bl and iz; double letters, and those that stay; short words, and those with w, x or y at the end.
completed_or_repaired :
    are_right
    (row (codes "conflated") (codes "conflat")
    ∷ row (codes "troubled") (codes "troubl")
    ∷ row (codes "sized") (codes "size")
    ∷ row (codes "hopping") (codes "hop")
    ∷ row (codes "tanned") (codes "tan")
    ∷ row (codes "falling") (codes "fall")
    ∷ row (codes "hissing") (codes "hiss")
    ∷ row (codes "fizzed") (codes "fizz")
    ∷ row (codes "failing") (codes "fail")
    ∷ row (codes "filing") (codes "file")
    ∷ row (codes "hoping") (codes "hope")
    ∷ row (codes "snowed") (codes "snow")
    ∷ row (codes "boxed") (codes "box")
    ∷ row (codes "playing") (codes "plai")
    ∷ [])
    ≡ true
unfolding stem step_1a step_1b step_1c step_2 step_3 step_4 step_5a step_5b by_rules rules_1a rules_completing rules_1c rules_2 rules_3 rules_4
completed_or_repaired = refl

-- Step 1c, and what y is.
with_y :
    are_right
    (row (codes "happy") (codes "happi")
    ∷ row (codes "sky") (codes "sky")
    ∷ row (codes "toy") (codes "toi")
    ∷ row (codes "by") (codes "by")
    ∷ row (codes "syzygy") (codes "syzygi")
    ∷ row (codes "yyy") (codes "yyi")
    ∷ row (codes "why") (codes "why")
    ∷ row (codes "enjoy") (codes "enjoi")
    ∷ [])
    ≡ true
unfolding stem step_1a step_1b step_1c step_2 step_3 step_4 step_5a step_5b by_rules rules_1a rules_completing rules_1c rules_2 rules_3 rules_4
with_y = refl

-- Step 2, each rule.
double_suffixes :
    are_right
    (row (codes "relational") (codes "relat")
    ∷ row (codes "conditional") (codes "condit")
    ∷ row (codes "valenci") (codes "valenc")
    ∷ row (codes "hesitanci") (codes "hesit")
    ∷ row (codes "digitizer") (codes "digit")
    ∷ row (codes "conformabli") (codes "conform")
    ∷ row (codes "radicalli") (codes "radic")
    ∷ row (codes "differentli") (codes "differ")
    ∷ row (codes "vileli") (codes "vile")
    ∷ row (codes "analogousli") (codes "analog")
    ∷ row (codes "vietnamization") (codes "vietnam")
    ∷ row (codes "predication") (codes "predic")
    ∷ row (codes "operator") (codes "oper")
    ∷ row (codes "feudalism") (codes "feudal")
    ∷ row (codes "decisiveness") (codes "decis")
    ∷ row (codes "hopefulness") (codes "hope")
    ∷ row (codes "callousness") (codes "callous")
    ∷ row (codes "formaliti") (codes "formal")
    ∷ row (codes "sensitiviti") (codes "sensit")
    ∷ row (codes "sensibiliti") (codes "sensibl")
    ∷ [])
    ≡ true
unfolding stem step_1a step_1b step_1c step_2 step_3 step_4 step_5a step_5b by_rules rules_1a rules_completing rules_1c rules_2 rules_3 rules_4
double_suffixes = refl

-- Step 2 where no measure stands before the suffix; of rational the longest suffix is ational.
double_suffixes_left :
    are_right
    (row (codes "rational") (codes "ration")
    ∷ row (codes "balli") (codes "balli")
    ∷ row (codes "celi") (codes "celi")
    ∷ row (codes "station") (codes "station")
    ∷ [])
    ≡ true
unfolding stem step_1a step_1b step_1c step_2 step_3 step_4 step_5a step_5b by_rules rules_1a rules_completing rules_1c rules_2 rules_3 rules_4
double_suffixes_left = refl

-- Step 3, each rule, and words with no measure before the suffix.
further_suffixes :
    are_right
    (row (codes "triplicate") (codes "triplic")
    ∷ row (codes "formative") (codes "form")
    ∷ row (codes "formalize") (codes "formal")
    ∷ row (codes "electriciti") (codes "electr")
    ∷ row (codes "electrical") (codes "electr")
    ∷ row (codes "hopeful") (codes "hope")
    ∷ row (codes "goodness") (codes "good")
    ∷ row (codes "dryness") (codes "dryness")
    ∷ row (codes "bical") (codes "bical")
    ∷ [])
    ≡ true
unfolding stem step_1a step_1b step_1c step_2 step_3 step_4 step_5a step_5b by_rules rules_1a rules_completing rules_1c rules_2 rules_3 rules_4
further_suffixes = refl

-- Step 4, each rule.
single_suffixes :
    are_right
    (row (codes "revival") (codes "reviv")
    ∷ row (codes "allowance") (codes "allow")
    ∷ row (codes "inference") (codes "infer")
    ∷ row (codes "airliner") (codes "airlin")
    ∷ row (codes "gyroscopic") (codes "gyroscop")
    ∷ row (codes "adjustable") (codes "adjust")
    ∷ row (codes "defensible") (codes "defens")
    ∷ row (codes "irritant") (codes "irrit")
    ∷ row (codes "replacement") (codes "replac")
    ∷ row (codes "adjustment") (codes "adjust")
    ∷ row (codes "dependent") (codes "depend")
    ∷ row (codes "adoption") (codes "adopt")
    ∷ row (codes "decision") (codes "decis")
    ∷ row (codes "homologou") (codes "homolog")
    ∷ row (codes "communism") (codes "commun")
    ∷ row (codes "activate") (codes "activ")
    ∷ row (codes "angulariti") (codes "angular")
    ∷ row (codes "homologous") (codes "homolog")
    ∷ row (codes "effective") (codes "effect")
    ∷ row (codes "bowdlerize") (codes "bowdler")
    ∷ [])
    ≡ true
unfolding stem step_1a step_1b step_1c step_2 step_3 step_4 step_5a step_5b by_rules rules_1a rules_completing rules_1c rules_2 rules_3 rules_4
single_suffixes = refl

-- Step 4 where the measure is 1 or 0, where ion comes after another letter, and where only a shorter suffix would go.
single_suffixes_left :
    are_right
    (row (codes "plaster") (codes "plaster")
    ∷ row (codes "agent") (codes "agent")
    ∷ row (codes "mission") (codes "mission")
    ∷ row (codes "companion") (codes "companion")
    ∷ row (codes "cement") (codes "cement")
    ∷ row (codes "element") (codes "element")
    ∷ [])
    ≡ true
unfolding stem step_1a step_1b step_1c step_2 step_3 step_4 step_5a step_5b by_rules rules_1a rules_completing rules_1c rules_2 rules_3 rules_4
single_suffixes_left = refl

-- Step 5a: a measure above 1; a measure of 1 with consonant, vowel, consonant before the e, and without; no measure.
with_a_last_e :
    are_right
    (row (codes "probate") (codes "probat")
    ∷ row (codes "rate") (codes "rate")
    ∷ row (codes "cease") (codes "ceas")
    ∷ row (codes "tree") (codes "tree")
    ∷ row (codes "agree") (codes "agre")
    ∷ [])
    ≡ true
unfolding stem step_1a step_1b step_1c step_2 step_3 step_4 step_5a step_5b by_rules rules_1a rules_completing rules_1c rules_2 rules_3 rules_4
with_a_last_e = refl

-- Step 5b.
with_a_last_ll :
    are_right
    (row (codes "controll") (codes "control")
    ∷ row (codes "roll") (codes "roll")
    ∷ row (codes "controlling") (codes "control")
    ∷ [])
    ≡ true
unfolding stem step_1a step_1b step_1c step_2 step_3 step_4 step_5a step_5b by_rules rules_1a rules_completing rules_1c rules_2 rules_3 rules_4
with_a_last_ll = refl

-- Words that several steps change.
through_many_steps :
    are_right
    (row (codes "generalizations") (codes "gener")
    ∷ row (codes "oscillators") (codes "oscil")
    ∷ row (codes "abilities") (codes "abil")
    ∷ [])
    ≡ true
unfolding stem step_1a step_1b step_1c step_2 step_3 step_4 step_5a step_5b by_rules rules_1a rules_completing rules_1c rules_2 rules_3 rules_4
through_many_steps = refl

-- Words that are too short, or have a digit, a capital or another character.
own_stems :
    are_right
    (row (codes "is") (codes "is")
    ∷ row (codes "s") (codes "s")
    ∷ row (codes "as") (codes "as")
    ∷ row (codes "Cats") (codes "Cats")
    ∷ row (codes "CATS") (codes "CATS")
    ∷ row (codes "hopinG") (codes "hopinG")
    ∷ row (codes "r2d2s") (codes "r2d2s")
    ∷ row (codes "cats1") (codes "cats1")
    ∷ row (codes "word's") (codes "word's")
    ∷ row (codes "file_names") (codes "file_names")
    ∷ [])
    ≡ true
unfolding stem step_1a step_1b step_1c step_2 step_3 step_4 step_5a step_5b by_rules rules_1a rules_completing rules_1c rules_2 rules_3 rules_4
own_stems = refl

-- naïves, whose third letter has two bytes
with_an_accent : stem (0x6E ∷ 0x61 ∷ 0xC3 ∷ 0xAF ∷ 0x76 ∷ 0x65 ∷ 0x73 ∷ []) ≡ 0x6E ∷ 0x61 ∷ 0xC3 ∷ 0xAF ∷ 0x76 ∷ 0x65 ∷ 0x73 ∷ []
unfolding stem
with_an_accent = refl

no_letters : stem [] ≡ []
unfolding stem
no_letters = refl
