use Rattle.std.proofs.Common.{◌≡◌}
use Rattle.sk_lexer.proofs.walk.chars_of.Given as goal

abbrev pub invariant-text : goal.invariant-text
invariant-text l = l.cs.items ≡ l.yielded
