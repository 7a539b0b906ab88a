use Rattle.std.proofs.Common.{sym, ◌∙◌}
use Rattle.sk_stem.proofs.StepLemmas.{completed-adds_e, completed-repaired}
use Rattle.sk_stem.proofs.steps.completion_of.Goals as goal

pub returns-then-takes_e-clause-value : goal.returns-then-takes_e-clause-value
returns-then-takes_e-clause-value c = completed-adds_e c.args.word.now (sym c.takes_e.ensures ∙ c.if-takes_e.true)

pub returns-clause-value : goal.returns-clause-value
returns-clause-value c = completed-repaired c.args.word.now (sym c.takes_e.ensures ∙ c.if-takes_e.false) ∙ c.repair_of.ensures.value
