use Rattle.std.proofs.Common.{◌≡◌, ◌≤◌, ◌+◌, ◌*◌, ◌^◌, drop}
use Rattle.sk_model.specs.Sharp.{ups}
use Rattle.sk_sharp.proofs.readings.ups.Given as goal

-- what was added, and what is left, is the whole
abbrev pub invariant-terms : goal.invariant-terms
invariant-terms l =
    (l.sum + ups (drop l.term-index l.terms) l.id l.docs.entries ≡ ups l.terms l.id l.docs.entries)
    × (l.sum ≤ l.term-index * 2 ^ 64)
