-- Whether a word begins at the front of a text, by its first character.
use Rattle.std.proofs.Common.{◌≡◌, ℕ, false, List, [], ◌∷◌, Some, None, refl, ap}
use Rattle.std.specs.List.{slice_get}
use Rattle.sk_text.specs.Characters.{is_word_char, begins_word}

pub begins_some : (text : List ℕ) (c : ℕ) → Some c ≡ slice_get text 0 → is_word_char c ≡ begins_word text
begins_some [] c e = cc
begins_some (d ∷ cs) c e = ap is_word_char (same c d e)
  where
    same : (c d : ℕ) → Some c ≡ Some d → c ≡ d
    same c d e = cc

pub begins_none : (text : List ℕ) → None ≡ slice_get text 0 → false ≡ begins_word text
begins_none [] e = refl
begins_none (d ∷ cs) e = cc
