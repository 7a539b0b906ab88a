-- Vowels and consonants, the measure of a word, and what a rule asks of a stem.
use Rattle.std.specs.Prelude.{◌≡◌, ℕ, zero, suc, replicate, ◌++◌, Bool, true, false, not, ◌&&◌, ◌||◌, ◌==◌, eqb, if◌then◌else◌, List, [], ◌∷◌, codes}
use Rattle.std.specs.Bool.{beq}
use Rattle.std.specs.List.{ends_with, list_any}

-- The mark of a vowel.
abbrev pub vowel : Bool
vowel = true

-- The mark of a consonant.
abbrev pub consonant : Bool
consonant = false

-- c is a, e, i, o or u
abbrev pub is_aeiou : ℕ → Bool
is_aeiou c = c == 97 || c == 101 || c == 105 || c == 111 || c == 117

-- The mark of the letter c: a, e, i, o and u are vowels, and so is y right after a consonant; every other letter is a consonant.
abbrev pub mark : Bool → ℕ → Bool
mark after_consonant c = is_aeiou c || (c == 121 && after_consonant)

-- The marks of letters, where a consonant stands right before the first of them or not.
abbrev pub marks_from : Bool → List ℕ → List Bool
marks_from after_consonant [] = []
marks_from after_consonant (c ∷ cs) = mark after_consonant c ∷ marks_from (not (mark after_consonant c)) cs

-- The marks of a word.
abbrev pub marks : List ℕ → List Bool
marks word = marks_from false word

-- How often a consonant comes right after a vowel, where a vowel stands right before the first mark or not.
abbrev pub falls_from : Bool → List Bool → ℕ
falls_from after_vowel [] = 0
falls_from after_vowel (m ∷ ms) = if after_vowel && not m then suc (falls_from m ms) else falls_from m ms

-- The measure: the m of a word of the form [C](VC)^m[V].
abbrev pub measure : List ℕ → ℕ
measure word = falls_from false (marks word)

-- Marks of the form (VC)^m[V], where V is a run of vowels, and C one of consonants.
abbrev pub AreTurns : ℕ → List Bool → Type 0
AreTurns zero ms = (v : ℕ) × (ms ≡ replicate v vowel)
AreTurns (suc m) ms = (v : ℕ) × (c : ℕ) × (rest : List Bool) × (ms ≡ replicate (suc v) vowel ++ (replicate (suc c) consonant ++ rest)) × AreTurns m rest

-- A word of the form [C](VC)^m[V]. Each word has it for one m, its measure (laws `measure-form` and `form-measure`).
abbrev pub HasForm : ℕ → List ℕ → Type 0
HasForm m word = (c : ℕ) × (rest : List Bool) × (marks word ≡ replicate c consonant ++ rest) × AreTurns m rest

-- The word ends with these letters.
abbrev pub ends_in : List ℕ → List ℕ → Bool
ends_in suffix word = ends_with eqb word suffix

-- The marks of the word end with these.
abbrev pub marks_end_in : List Bool → List ℕ → Bool
marks_end_in pattern word = ends_with beq (marks word) pattern

-- The word has a vowel.
abbrev pub has_vowel : List ℕ → Bool
has_vowel word = list_any (λ m. m) (marks word)

-- The last two letters are the same.
abbrev pub ends_twice : List ℕ → Bool
ends_twice [] = false
ends_twice (c ∷ []) = false
ends_twice (c ∷ d ∷ []) = c == d
ends_twice (c ∷ d ∷ e ∷ cs) = ends_twice (d ∷ e ∷ cs)

-- The word ends with two equal consonants.
abbrev pub ends_double : List ℕ → Bool
ends_double word = ends_twice word && marks_end_in (consonant ∷ consonant ∷ []) word

-- The word ends with consonant, vowel, consonant, and the last is not w, x or y.
abbrev pub ends_cvc : List ℕ → Bool
ends_cvc word =
    marks_end_in (consonant ∷ vowel ∷ consonant ∷ []) word
    && not (ends_in (codes "w") word || ends_in (codes "x") word || ends_in (codes "y") word)
