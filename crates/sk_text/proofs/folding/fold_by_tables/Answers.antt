use Rattle.std.proofs.Common.{sym, ◌∙◌}
use Rattle.sk_text.proofs.TermLemmas.{three_steps, is_empty-folded, term_of-empty, term_of-full}
use Rattle.sk_text.proofs.folding.fold_by_tables.Goals as goal

pub returns-then-is_empty : goal.returns-then-is_empty
returns-then-is_empty c =
    let whole = three_steps c.args.word.now c.in_ok-apart.apart c.in_ok-folded.folded c.in_ok-text.text _ _
    c.in_ok-apart.ensures c.as_str.ensures.value c.in_ok-folded.ensures c.as_str-2.ensures.value c.in_ok-text.ensures in
    c.in_ok-text-2.ensures.ok
    ∙ sym (term_of-empty c.args.word.now (sym (is_empty-folded c.args.word.now c.in_ok-text.text whole) ∙ sym c.is_empty.ensures ∙ c.if-is_empty.true))

pub returns : goal.returns
returns c =
    let whole = three_steps c.args.word.now c.in_ok-apart.apart c.in_ok-folded.folded c.in_ok-text.text _ _
    c.in_ok-apart.ensures c.as_str.ensures.value c.in_ok-folded.ensures c.as_str-2.ensures.value c.in_ok-text.ensures in
    whole
    ∙ sym (term_of-full c.args.word.now (sym (is_empty-folded c.args.word.now c.in_ok-text.text whole) ∙ sym c.is_empty.ensures ∙ c.if-is_empty.false))
