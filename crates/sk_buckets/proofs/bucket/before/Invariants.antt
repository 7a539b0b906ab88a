use Rattle.sk_buckets.proofs.ChainLemmas.{IsWalk}
use Rattle.sk_buckets.proofs.bucket.before.Given as goal

abbrev pub invariant-walk : goal.invariant-walk
invariant-walk l = IsWalk l.next l.first l.count l.which l.counter l.at
