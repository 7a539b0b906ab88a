use Rattle.sk_faults.proofs.BoundLemmas.{number_fails}
use Rattle.sk_faults.proofs.bounds.number.Goals as goal

pub returns-in-Err : goal.returns-in-Err
returns-in-Err c = absurd (number_fails c.args.text.now c.parse.result c.in-Err.field-0 c.parse.ensures.value.0 c.requires.number c.requires.some c.in-Err.is)
