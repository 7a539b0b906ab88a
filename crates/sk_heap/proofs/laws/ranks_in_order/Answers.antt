use Rattle.sk_heap.proofs.HeapLaws.{ranks_best, ranks_placed}
use Rattle.sk_heap.proofs.laws.ranks_in_order.Goals as goal

pub returns-clause-best : goal.returns-clause-best
returns-clause-best c = ranks_best

pub returns-clause-placed : goal.returns-clause-placed
returns-clause-placed c = ranks_placed
