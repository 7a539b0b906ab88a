-- What was put and the heads that are left are all.
use Rattle.std.proofs.Common.{◌≡◌, ◌++◌, drop}
use Rattle.sk_packed.specs.Packed.{heads_of}
use Rattle.sk_packed.proofs.packed_terms.push_heads.Given as goal

abbrev pub invariant-terms : goal.invariant-terms
invariant-terms l = l.words.items ++ heads_of l.first l.from (drop l.one-index l.terms) ≡ l.initial.words.items ++ heads_of l.first 0 l.terms
