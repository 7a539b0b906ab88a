use Rattle.std.proofs.Common.{◌≡◌, ◌≤◌, ◌+◌, ◌-◌, ◌*◌, ◌^◌, drop, length}
use Rattle.sk_model.specs.Scores.{wdf_sum}
use Rattle.sk_plain.proofs.leaves.wdf_sum.Given as goal

-- what was added, and what is left, is the whole
abbrev pub invariant-words : goal.invariant-words
invariant-words l =
    (l.sum + wdf_sum (drop l.word-index l.words) l.terms ≡ wdf_sum l.words l.terms)
    × (l.sum + length (drop l.word-index l.words) * (2 ^ 29 - 1) ≤ length l.words * (2 ^ 29 - 1))
