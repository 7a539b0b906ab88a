use Rattle.std.proofs.Common.{◌≡◌, ◌++◌, drop, string_bytes, encode_utf8_all}
use Rattle.sk_lexer.proofs.groups.string_of.Given as goal

abbrev pub invariant-cs : goal.invariant-cs
invariant-cs l = string_bytes l.text ++ encode_utf8_all (drop l.c-index l.cs) ≡ encode_utf8_all l.cs
