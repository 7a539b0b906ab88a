use Rattle.std.proofs.Common.{◌∷◌, ◌++◌, [], false, ◌∙◌}
use Rattle.sk_grammar.specs.Parts.{chain}
use Rattle.sk_parser.proofs.part.word_part.Goals as goal

pub returns : goal.returns
returns c = λ j. chain false 0 (c.in_ok-stem.ensures j) ((c.in_ok-push.ensures.items ∙ (λ i. c.new-words.ensures.items i ++ c.in_ok-prefixed.ensures i ∷ [])) j)
