use Rattle.std.proofs.Common.{◌≡◌, drop, map}
use Rattle.sk_base.specs.Numbers.{greatest_of}
use Rattle.sk_weight.specs.Together.{nothing_yet, with_bounds}
use Rattle.sk_weight.proofs.words.word_greatests.Given as goal

-- with those of the words that are left it is made of all
abbrev pub invariant-words : goal.invariant-words
invariant-words g l = with_bounds l.greatests (map (λ t. greatest_of t (g.S.Stats.documents l.stats)) (drop l.word-index l.words)) ≡ with_bounds nothing_yet (map (λ t. greatest_of t (g.S.Stats.documents l.stats)) l.words)
