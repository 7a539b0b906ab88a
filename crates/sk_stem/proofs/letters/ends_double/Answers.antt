use Rattle.std.proofs.Common.{◌≡◌, ◌-◌, true, false, not, ◌&&◌, ◌==◌, length, get_or, sym, ap, ◌∙◌, arith}
use Rattle.std.proofs.lemmas.Bool.{eq-eqb, eqb-true, false_from_ne_true}
use Rattle.sk_stem.specs.Letters.{mark}
use Rattle.sk_stem.proofs.LetterLemmas.{ends_double-last, ends_double-short}
use Rattle.sk_stem.proofs.letters.ends_double.Goals as goal

pub returns-in_default : goal.returns-in_default
returns-in_default c = sym (ends_double-short c.args.word.now (omega arith))

pub returns-then-c-d : goal.returns-then-c-d
returns-then-c-d c =
    let last = get_or c.args.word.now (length c.args.word.now - 1) 0 in
    ap not c.is_vowel.ensures ∙ sym (ends_double-last c.args.word.now (omega arith) ∙ ap (λ b. b && not (mark true last)) (eq-eqb _ _ c.if-c-d.true))

pub returns-else-c-d : goal.returns-else-c-d
returns-else-c-d c =
    let last = get_or c.args.word.now (length c.args.word.now - 1) 0 in
    let other = get_or c.args.word.now (length c.args.word.now - 2) 0 in
    let no : (other == last) ≡ false = false_from_ne_true (other == last) (λ h. c.if-c-d.false (eqb-true other last h)) in
    no ∙ sym (ends_double-last c.args.word.now (omega arith) ∙ ap (λ b. b && not (mark true last)) no)
