use Rattle.sk_heap.proofs.HeapLaws.{need_keeps_out, need_keeps_out_any_id}
use Rattle.sk_heap.proofs.laws.need_keeps_out.Goals as goal

pub returns-clause-greater : goal.returns-clause-greater
returns-clause-greater c = λ held n r s is less greater. need_keeps_out held n r s.sorted is less greater

pub returns-clause-any : goal.returns-clause-any
returns-clause-any c = λ held n r s is less any. need_keeps_out_any_id held n r s.sorted is less any
