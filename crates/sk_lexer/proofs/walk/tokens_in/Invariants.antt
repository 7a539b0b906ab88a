use Rattle.std.proofs.Common.{length}
use Rattle.sk_lexer.proofs.WalkLemmas.{Reached}
use Rattle.sk_lexer.proofs.walk.tokens_in.Given as goal

abbrev pub invariant-pieces : goal.invariant-pieces
invariant-pieces l = Reached l.schema l.cs l.made l.previous l.from l.rest

abbrev pub decreases-pieces : goal.decreases-pieces
decreases-pieces l = length l.rest
