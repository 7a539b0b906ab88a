use Rattle.sk_run.proofs.RanLemmas.{counter_never_falls}
use Rattle.sk_run.proofs.laws.counter_never_falls.Goals as goal

pub returns : goal.returns
returns g c = counter_never_falls g.M.Store.conduct
