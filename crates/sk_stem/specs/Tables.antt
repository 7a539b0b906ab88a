-- What the tables of rules in the code mean, and what they keep; and how the code completes a word.
use Rattle.std.specs.Prelude.{ℕ, ◌≤◌, Bool, true, not, ◌&&◌, leb, ltb, List, [], ◌∷◌, ◌++◌, length, codes}
use Rattle.std.specs.List.{list_all}
use Rattle.sk_stem.specs.declared.rules.Condition.{Condition}
use Rattle.sk_stem.specs.declared.rules.Condition.TheVariants.{Always, HasVowel, MeasureAbove0, MeasureAbove1, MeasureAbove1AfterSOrT}
use Rattle.sk_stem.specs.declared.rules.Rule as coded
use Rattle.sk_stem.specs.Letters.{has_vowel, ends_in}
use Rattle.sk_stem.specs.declared.steps.Completion.{Completion}
use Rattle.sk_stem.specs.declared.steps.Completion.TheVariants.{AddE, DropLast, Leave}
use Rattle.sk_stem.specs.Rules.{Rule, rule, without_last, always, measure_above_0, measure_above_1, measure_above_1_after_s_or_t}

-- A condition by its name.
abbrev pub condition_of : Condition → List ℕ → Bool
condition_of Always = always
condition_of HasVowel = has_vowel
condition_of MeasureAbove0 = measure_above_0
condition_of MeasureAbove1 = measure_above_1
condition_of MeasureAbove1AfterSOrT = measure_above_1_after_s_or_t

-- A rule of a table.
abbrev pub rule_of : coded.Rule → Rule
rule_of r = rule r.0.now r.1.now (condition_of r.2)

-- A word that ends with the longer suffix of s also ends with that of r.
abbrev pub hides : Rule → Rule → Bool
hides r s = ltb (length r.suffix) (length s.suffix) && ends_in r.suffix s.suffix

-- No rule makes a word longer, and none stands before one that it hides.
abbrev pub is_table : List Rule → Bool
is_table [] = true
is_table (r ∷ rs) = leb (length r.replacement) (length r.suffix) && list_all (λ s. not (hides r s)) rs && is_table rs

-- There is room in the word for the rule's suffix, and in the suffix for its replacement.
pub record Fits (r : Rule) (word : List ℕ) : Type 0 where
  pub suffix : length r.suffix ≤ length word
  pub replacement : length r.replacement ≤ length r.suffix

-- A word that is completed in this way.
abbrev pub completed_as : Completion → List ℕ → List ℕ
completed_as AddE word = word ++ codes "e"
completed_as DropLast word = without_last 1 word
completed_as Leave word = word
