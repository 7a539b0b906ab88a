use Rattle.std.proofs.Common.{◌≡◌, take}
use Rattle.sk_pieces.proofs.pieces.copies_of.Given as goal

abbrev pub invariant-pieces : goal.invariant-pieces
invariant-pieces g l = l.copies.items ≡ take l.piece-index l.pieces
