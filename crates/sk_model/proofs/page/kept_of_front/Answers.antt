use Rattle.sk_model.proofs.KeptLaws.{kept_front, kept_others, dropped_front}
use Rattle.sk_model.proofs.page.kept_of_front.Goals as goal

pub returns-clause-fewer : goal.returns-clause-fewer
returns-clause-fewer c = kept_front

pub returns-clause-others : goal.returns-clause-others
returns-clause-others c = kept_others

pub returns-clause-dropped : goal.returns-clause-dropped
returns-clause-dropped c = dropped_front
