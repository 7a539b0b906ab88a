use Rattle.sk_heap.proofs.HeapLaws.{falls_out}
use Rattle.sk_heap.proofs.laws.falls_out.Goals as goal

pub returns : goal.returns
returns c = falls_out
