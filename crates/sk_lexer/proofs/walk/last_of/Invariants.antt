use Rattle.std.proofs.Common.{◌≡◌, drop}
use Rattle.sk_grammar.specs.Cutting.{last_of}
use Rattle.sk_lexer.proofs.walk.last_of.Given as goal

abbrev pub invariant-cs : goal.invariant-cs
invariant-cs l = last_of l.last (drop l.c-index l.cs) ≡ last_of l.fn.previous l.cs
