use Rattle.std.proofs.Common.{◌≡◌, take}
use Rattle.sk_sharp.proofs.lists.copies.Given as goal

abbrev pub invariant-words : goal.invariant-words
invariant-words l = l.copies ≡ take l.word-index l.words
