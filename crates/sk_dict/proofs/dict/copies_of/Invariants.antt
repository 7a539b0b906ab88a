use Rattle.std.proofs.Common.{◌≡◌, take}
use Rattle.sk_dict.proofs.dict.copies_of.Given as goal

abbrev pub invariant-copies : goal.invariant-copies
invariant-copies l = l.copies.items ≡ take l.block-index l.blocks
