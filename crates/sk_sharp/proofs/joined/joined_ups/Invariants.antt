use Rattle.std.proofs.Common.{◌≡◌, ◌≤◌, ◌+◌, ◌*◌, ◌^◌, drop}
use Rattle.sk_model.specs.Joined.{joined_ups}
use Rattle.sk_sharp.proofs.joined.joined_ups.Given as goal

-- what was added, and what is left, is the whole
abbrev pub invariant-terms : goal.invariant-terms
invariant-terms l =
    (l.sum + joined_ups l.parts (drop l.term-index l.terms) l.id l.docs.entries ≡ joined_ups l.parts l.terms l.id l.docs.entries)
    × (l.sum ≤ l.term-index * 2 ^ 65)
