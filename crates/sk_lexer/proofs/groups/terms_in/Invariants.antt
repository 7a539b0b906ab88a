use Rattle.std.proofs.Common.{◌≡◌, map, take}
use Rattle.sk_grammar.specs.Characters.{word_term}
use Rattle.sk_lexer.proofs.groups.terms_in.Given as goal

abbrev pub invariant-found : goal.invariant-found
invariant-found l = l.terms.items ≡ map word_term (take l.word-index l.word-items)
