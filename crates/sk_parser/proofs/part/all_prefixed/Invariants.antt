use Rattle.std.proofs.Common.{◌≡◌, map, take}
use Rattle.sk_base.specs.Terms.{prefixed}
use Rattle.sk_parser.proofs.part.all_prefixed.Given as goal

abbrev pub invariant-terms : goal.invariant-terms
invariant-terms l = l.made.items ≡ map (prefixed l.prefix) (take l.term-index l.terms)
