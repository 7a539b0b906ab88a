use Rattle.std.proofs.Common.{inl, inr, refl, sym, ◌∙◌}
use Rattle.sk_run.proofs.AnsweringLemmas.{ok_as}
use Rattle.sk_run.proofs.asking.faceted.Goals as goal

pub returns-then-is_in_parts-clause-answer : goal.returns-then-is_in_parts-clause-answer
returns-then-is_in_parts-clause-answer g c = λ s holds. inl (sym (c.is_in_parts.ensures s holds) ∙ c.if-is_in_parts.true, refl)

pub returns-clause-answer : goal.returns-clause-answer
returns-clause-answer g c =
    ok_as _ _ c.counted.result (λ answer answered s holds. inr (sym (c.is_in_parts.ensures s holds) ∙ c.if-is_in_parts.false, answered s holds)) c.counted.ensures.answer
