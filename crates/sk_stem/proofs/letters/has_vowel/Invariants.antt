use Rattle.std.proofs.Common.{◌≡◌, drop}
use Rattle.std.specs.List.{list_any}
use Rattle.sk_stem.specs.Letters.{marks_from, has_vowel}
use Rattle.sk_stem.proofs.letters.has_vowel.Given as goal

-- A vowel is still to come, if there is one.
abbrev pub invariant-letters : goal.invariant-letters
invariant-letters l = list_any (λ m. m) (marks_from l.after_consonant (drop l.letter-index l.word)) ≡ has_vowel l.word
