use Rattle.std.proofs.Common.{◌≡◌, drop, map}
use Rattle.sk_model.specs.Bounds.{term_ceil}
use Rattle.sk_weight.specs.Together.{nothing_yet, with_bounds}
use Rattle.sk_weight.proofs.words.word_ceils.Given as goal

-- with those of the words that are left it is made of all
abbrev pub invariant-words : goal.invariant-words
invariant-words g l = with_bounds l.bounds (map (λ t. term_ceil l.scheme l.factor t (g.S.Stats.documents l.stats)) (drop l.word-index l.words)) ≡ with_bounds nothing_yet (map (λ t. term_ceil l.scheme l.factor t (g.S.Stats.documents l.stats)) l.words)
