use Rattle.sk_faults.proofs.FaultLemmas.{Reached}
use Rattle.sk_faults.proofs.faults.fault_in.Given as goal

abbrev pub invariant-tokens : goal.invariant-tokens
invariant-tokens l = Reached l.schema l.tokens l.unclosed l.i l.before
