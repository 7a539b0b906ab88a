use Rattle.std.proofs.Common.{◌≡◌, take}
use Rattle.sk_pieces.proofs.piece.copies_of.Given as goal

abbrev pub invariant-entries : goal.invariant-entries
invariant-entries g l = l.copies ≡ take l.entry-index l.entries
