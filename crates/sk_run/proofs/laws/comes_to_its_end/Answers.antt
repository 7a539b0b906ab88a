use Rattle.sk_run.proofs.RanLemmas.{comes_to_its_end}
use Rattle.sk_run.proofs.laws.comes_to_its_end.Goals as goal

pub returns : goal.returns
returns g c = comes_to_its_end g.M.Store.conduct
