-- What is left is plain exactly where all is.
use Rattle.std.proofs.Common.{◌≡◌, drop}
use Rattle.sk_packed.specs.Packed.{are_plain}
use Rattle.sk_packed.proofs.packed_terms.are_plain.Given as goal

abbrev pub invariant-terms : goal.invariant-terms
invariant-terms l = are_plain l.from (drop l.one-index l.terms) ≡ are_plain 0 l.terms
