use Rattle.std.proofs.Common.{length, map, [], false, ap, sym, ◌∙◌, arith}
use Rattle.std.proofs.lemmas.List.{take_all}
use Rattle.std.proofs.lemmas.Str.{chars_from_encodes}
use Rattle.sk_text.specs.Words.{words_from}
use Rattle.sk_grammar.specs.Characters.{word_term}
use Rattle.sk_lexer.proofs.RunLemmas.{length_encoded}
use Rattle.sk_lexer.proofs.groups.terms_in.Goals as goal

pub words-requires : goal.words-requires
words-requires c =
    let same = ap length c.requires.text in
    let size = length_encoded c.args.cs.now in
    omega (arith, same, size)

pub returns : goal.returns
returns c =
    c.found.invariant ∙ ap (map word_term) (take_all c.found.word-index c.as_slice-word-items.result.now (omega arith))
    ∙ ap (map word_term) (c.as_slice-word-items.ensures ∙ c.in_ok-found.ensures.value
    ∙ ap (words_from 1 false 0 0 []) (sym (chars_from_encodes c.args.cs.now c.args.text.now c.utf8.text (sym c.requires.text))))
