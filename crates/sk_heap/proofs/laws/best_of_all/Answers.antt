use Rattle.sk_heap.proofs.HeapLaws.{best_of_all}
use Rattle.sk_heap.proofs.laws.best_of_all.Goals as goal

pub returns : goal.returns
returns c = best_of_all
