use Rattle.std.proofs.Common.{◌≡◌, ◌∷◌, [], drop}
use Rattle.sk_stem.specs.Letters.{marks_from, marks_end_in, consonant, vowel}
use Rattle.sk_stem.proofs.LetterLemmas.{ends_cvc_from}
use Rattle.sk_stem.proofs.letters.ends_cvc.Given as goal

-- With the letters that are left, the marks end as they do in the whole word.
abbrev pub invariant-letters : goal.invariant-letters
invariant-letters l =
    ends_cvc_from l.cvc l.cv l.after_consonant (marks_from l.after_consonant (drop l.letter-index l.word)) ≡ marks_end_in (consonant ∷ vowel ∷ consonant ∷ []) l.word
