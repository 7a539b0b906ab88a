-- Each word has the form [C](VC)^m[V] for one m, which is its measure.
use Rattle.std.proofs.Common.{◌≡◌, ℕ, zero, suc, Bool, true, false, List, [], ◌∷◌, ◌++◌, replicate, refl, ap, ◌∙◌}
use Rattle.sk_stem.specs.Letters.{vowel, consonant, marks, falls_from, measure, AreTurns, HasForm}

-- no mark counts among consonants behind a consonant, or among vowels
falls_consonants : (c : ℕ) (rest : List Bool) → falls_from false (replicate c consonant ++ rest) ≡ falls_from false rest
falls_consonants zero rest = refl
falls_consonants (suc c) rest = falls_consonants c rest

falls_vowels : (v : ℕ) (rest : List Bool) → falls_from true (replicate v vowel ++ rest) ≡ falls_from true rest
falls_vowels zero rest = refl
falls_vowels (suc v) rest = falls_vowels v rest

only_vowels : (v : ℕ) (after : Bool) → falls_from after (replicate v vowel) ≡ 0
only_vowels zero after = refl
only_vowels (suc v) true = only_vowels v true
only_vowels (suc v) false = only_vowels v true

turns_fall : (m : ℕ) (ms : List Bool) → AreTurns m ms → falls_from false ms ≡ m
turns_fall zero ms t = ap (falls_from false) t.1 ∙ only_vowels t.0 false
turns_fall (suc m) ms t =
    ap (falls_from false) t.3 ∙ falls_vowels t.0 (replicate (suc t.1) consonant ++ t.2) ∙ ap suc (falls_consonants t.1 t.2 ∙ turns_fall m t.2 t.4)

-- a word of the form has that measure
pub form-measure : (m : ℕ) (word : List ℕ) → HasForm m word → measure word ≡ m
form-measure m word f = ap (falls_from false) f.2 ∙ falls_consonants f.0 f.1 ∙ turns_fall m f.1 f.3

-- one vowel more at the front
more_vowels : (m : ℕ) (ms : List Bool) → AreTurns m (vowel ∷ ms) → AreTurns m (vowel ∷ vowel ∷ ms)
more_vowels zero ms t = (suc t.0, ap (λ xs. vowel ∷ xs) t.1)
more_vowels (suc m) ms t = (suc t.0, t.1, t.2, ap (λ xs. vowel ∷ xs) t.3, t.4)

-- the form of marks behind a consonant or none, and behind a vowel
forms : (ms : List Bool) → ((c : ℕ) × (rest : List Bool) × (ms ≡ replicate c consonant ++ rest) × AreTurns (falls_from false ms) rest) × AreTurns (falls_from true ms) (vowel ∷ ms)
forms [] = ((0, [], refl, (0, refl)), (1, refl))
forms (true ∷ ms) =
    let more = forms ms in ((0, true ∷ ms, refl, more.1), more_vowels (falls_from true ms) ms more.1)
forms (false ∷ ms) =
    let more = forms ms in (
      (suc more.0.0, more.0.1, ap (λ xs. consonant ∷ xs) more.0.2, more.0.3),
      (0, more.0.0, more.0.1, ap (λ xs. vowel ∷ consonant ∷ xs) more.0.2, more.0.3),
    )

-- each word has the form for its measure
pub measure-form : (word : List ℕ) → HasForm (measure word) word
measure-form word = (forms (marks word)).0
