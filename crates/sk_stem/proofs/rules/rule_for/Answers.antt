use Rattle.std.proofs.Common.{◌≡◌, drop, map, suc, sym, subst, ap, ◌∙◌, arith, true}
use Rattle.std.proofs.Math.Seq.{drop-cons}
use Rattle.sk_stem.specs.Rules.{longest}
use Rattle.sk_stem.specs.Tables.{rule_of, is_table}
use Rattle.sk_stem.proofs.RuleLemmas.{longest-first}
use Rattle.sk_stem.proofs.rules.rule_for.Goals as goal

pub returns-then-ends_in-clause-value : goal.returns-then-ends_in-clause-value
returns-then-ends_in-clause-value c =
    let left = drop-cons c.args.rules.now c.rules.rule-index _ (omega arith) in
    let table = subst (λ rs. is_table (map rule_of rs) ≡ true) left c.rules.invariant.table in
    sym (longest-first c.args.word.now _ (map rule_of (drop (suc c.rules.rule-index) c.args.rules.now)) table (sym c.ends_in.ensures.value ∙ c.if-ends_in.true))
    ∙ ap (λ rs. longest c.args.word.now (map rule_of rs)) (sym left) ∙ c.rules.invariant.left
