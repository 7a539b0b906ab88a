use Rattle.std.proofs.Common.{◌≡◌, ◌+◌, ◌≤◌, drop}
use Rattle.sk_stem.specs.Letters.{marks_from, falls_from, measure}
use Rattle.sk_stem.proofs.letters.measure.Given as goal

-- What is counted and what is still to count make the whole.
abbrev pub invariant-letters : goal.invariant-letters
invariant-letters l = record {
  whole : l.measure + falls_from l.after_vowel (marks_from l.after_consonant (drop l.letter-index l.word)) ≡ measure l.word;
  few : l.measure ≤ l.letter-index;
}
