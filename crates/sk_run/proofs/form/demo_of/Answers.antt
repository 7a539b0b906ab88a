use Rattle.sk_run.proofs.FormLemmas.{too_many}
use Rattle.sk_run.proofs.form.demo_of.Goals as goal

pub returns-in-Err : goal.returns-in-Err
returns-in-Err c = too_many c.args.digits.now c.parse.result c.in-Err.field-0 c.parse.ensures.value.0 c.requires c.in-Err.is
