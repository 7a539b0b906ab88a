use Rattle.sk_heap.proofs.HeapLaws.{offered_in_order, without_in_order}
use Rattle.sk_heap.proofs.laws.order_is_kept.Goals as goal

pub returns-clause-offered : goal.returns-clause-offered
returns-clause-offered c = offered_in_order

pub returns-clause-removed : goal.returns-clause-removed
returns-clause-removed c = without_in_order
