use Rattle.std.proofs.Common.{drop, ◌+◌, arith, rules}
use Rattle.sk_model.specs.Sharp.{rare_readings}
use Rattle.sk_plain.proofs.KeptLemmas.{cut}
use Rattle.sk_sharp.proofs.ListLemmas.{rare_step}
use Rattle.sk_sharp.proofs.readings.rare_readings.Goals as goal

pub terms-preserved : goal.terms-preserved
terms-preserved c = (
  rare_step c.args.leading c.args.docs.now.entries c.terms.sum c.length_of.result c.min-sum.result (rare_readings c.args.terms.now c.args.leading c.args.docs.now.entries)
      (drop c.terms.term-index c.args.terms.now) (drop (c.terms.term-index + 1) c.args.terms.now) c.term-item.result
      (cut c.args.terms.now c.terms.term-index c.term-item.result (omega arith) c.term-item.is)
      (search rules) c.min-sum.ensures c.terms.invariant.0,
  omega arith,
)
