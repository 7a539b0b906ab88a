-- One word more.
use Rattle.std.proofs.Common.{◌∷◌, sym, ◌∙◌, arith}
use Rattle.std.proofs.lemmas.Bool.{not-false}
use Rattle.std.proofs.lemmas.Slice.Eq.{bytes_eq-Decides}
use Rattle.sk_tree.proofs.WordLaws.{cut}
use Rattle.sk_tree.proofs.parts.are_equal.Goals as goal

pub words-preserved : goal.words-preserved
words-preserved c rest =
    let word = c.index-words-i.result in
    let other = c.index-others-i.result in
    let same = sym c.as_str.ensures ∙ (bytes_eq-Decides _ _).0 (not-false _ (sym c.ne.ensures ∙ c.if-ne.false)) ∙ c.as_str-in-words.ensures in
    c.words.invariant
    (cut c.args.others.now c.words.i other (omega arith) c.index-others-i.is ∙ (λ i. sym same i ∷ rest i) ∙ sym (cut c.args.words.now c.words.i word (omega arith) c.index-words-i.is))
