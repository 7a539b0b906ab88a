use Rattle.sk_base.proofs.FittingLemmas.{fit_is}
use Rattle.sk_base.proofs.fitting.values_fit.Goals as goal

pub returns : goal.returns
returns c = fit_is c.args.fields.now c.args.values.now c.fit.result c.fit.ensures
