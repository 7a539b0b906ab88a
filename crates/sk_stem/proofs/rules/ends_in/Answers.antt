use Rattle.std.proofs.Common.{◌≡◌, ◌-◌, ◌==◌, false, length, get_or, sym, ◌∙◌, arith}
use Rattle.std.proofs.lemmas.Bool.{eqb-true, false_from_ne_true}
use Rattle.sk_stem.proofs.RuleLemmas.{ends_in-other}
use Rattle.sk_stem.proofs.rules.ends_in.Goals as goal

pub returns-else-a-b-clause-value : goal.returns-else-a-b-clause-value
returns-else-a-b-clause-value c =
    let a = get_or c.args.suffix.now (length c.args.suffix.now - 1) 0 in
    let b = get_or c.args.word.now (length c.args.word.now - 1) 0 in
    let other : (a == b) ≡ false = false_from_ne_true (a == b) (λ h. c.if-a-b.false (eqb-true a b h)) in
    other ∙ sym (ends_in-other c.args.suffix.now c.args.word.now (omega arith) c.if-a-b.false)
