use Rattle.std.proofs.Common.{◌≡◌, ◌≤◌, ◌+◌, ◌*◌, ◌^◌, drop}
use Rattle.sk_model.specs.Sharp.{rare_readings}
use Rattle.sk_sharp.proofs.readings.rare_readings.Given as goal

-- what was added, and what is left, is the whole
abbrev pub invariant-terms : goal.invariant-terms
invariant-terms l =
    (l.sum + rare_readings (drop l.term-index l.terms) l.leading l.docs.entries ≡ rare_readings l.terms l.leading l.docs.entries)
    × (l.sum ≤ l.term-index * 2 ^ 64)
