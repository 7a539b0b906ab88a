use Rattle.sk_run.proofs.WaitingLemmas.{moves_none}
use Rattle.sk_run.proofs.waiting.Waiting.put_unless.Goals as goal

pub returns-then-stays-clause-ok : goal.returns-then-stays-clause-ok
returns-then-stays-clause-ok g c = moves_none _ _
