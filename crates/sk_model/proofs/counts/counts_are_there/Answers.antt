use Rattle.sk_model.proofs.CountLaws.{found_counts, true_collapse}
use Rattle.sk_model.proofs.counts.counts_are_there.Goals as goal

pub returns-clause-both : goal.returns-clause-both
returns-clause-both c = found_counts

pub returns-clause-collapsed : goal.returns-clause-collapsed
returns-clause-collapsed c = true_collapse
