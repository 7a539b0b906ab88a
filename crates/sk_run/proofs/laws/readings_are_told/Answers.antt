use Rattle.sk_run.proofs.PayingLemmas.{readings_are_told}
use Rattle.sk_run.proofs.laws.readings_are_told.Goals as goal

pub returns : goal.returns
returns g c = readings_are_told g.M.Store.conduct
