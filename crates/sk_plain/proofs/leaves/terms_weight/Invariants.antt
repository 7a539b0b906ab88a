use Rattle.std.proofs.Common.{◌≡◌, ◌≤◌, ◌+◌, ◌*◌, ◌^◌, drop, length}
use Rattle.sk_model.specs.Scores.{terms_weight}
use Rattle.sk_plain.proofs.leaves.terms_weight.Given as goal

-- what was added, and what is left, is the whole
abbrev pub invariant-words : goal.invariant-words
invariant-words l =
    (l.sum + terms_weight l.scheme l.factor (drop l.word-index l.words) l.terms ≡ terms_weight l.scheme l.factor l.words l.terms)
    × (l.sum + length (drop l.word-index l.words) * 2 ^ 74 ≤ length l.words * 2 ^ 74)
