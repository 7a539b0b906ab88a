-- Those behind tell.
use Rattle.std.proofs.Common.{◌≡◌, drop}
use Rattle.sk_tree.proofs.parts.are_equal.Given as goal

abbrev pub invariant-words : goal.invariant-words
invariant-words l = drop l.i l.others ≡ drop l.i l.words → l.others ≡ l.words
