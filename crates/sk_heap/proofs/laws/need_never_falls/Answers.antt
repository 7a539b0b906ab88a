use Rattle.sk_heap.proofs.HeapLaws.{need_after_offer, need_after_exchange}
use Rattle.sk_heap.proofs.laws.need_never_falls.Goals as goal

pub returns-clause-offered : goal.returns-clause-offered
returns-clause-offered c = λ held x s. need_after_offer held x s.few s.sorted

pub returns-clause-exchanged : goal.returns-clause-exchanged
returns-clause-exchanged c = λ held x id s better. need_after_exchange held x id s.few s.sorted s.differ better
