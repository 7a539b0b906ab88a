use Rattle.sk_base.proofs.RankLaws.{rank_total, ids_tie}
use Rattle.sk_base.proofs.rank.total_order.Goals as goal

pub returns-clause-total : goal.returns-clause-total
returns-clause-total c = rank_total

pub returns-clause-no_ties : goal.returns-clause-no_ties
returns-clause-no_ties c = ids_tie
