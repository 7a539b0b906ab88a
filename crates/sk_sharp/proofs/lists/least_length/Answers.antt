use Rattle.std.proofs.Common.{◌∷◌, drop, take, map, length, ◌+◌, ◌-◌, arith, rules}
use Rattle.sk_base.specs.Numbers.{length_of}
use Rattle.sk_model.specs.Bounds.{least_in}
use Rattle.sk_plain.proofs.KeptLemmas.{cut}
use Rattle.sk_sharp.proofs.ListLemmas.{least_step, least_end}
use Rattle.sk_sharp.proofs.lists.least_length.Goals as goal

pub rest-preserved : goal.rest-preserved
rest-preserved c =
    let rest = take (length c.args.terms.now - 1) (drop 1 c.args.terms.now) in
    least_step (λ t. length_of t c.args.docs.now.entries) c.rest.least c.length_of.result c.min-least.result
    (least_in (c.length_of-least.result ∷ map (λ t. length_of t c.args.docs.now.entries) rest))
    (drop c.rest.term-index rest) (drop (c.rest.term-index + 1) rest) c.term-item.result
    (cut rest c.rest.term-index c.term-item.result (omega arith) c.term-item.is)
    (search rules) c.min-least.ensures c.rest.invariant

pub returns : goal.returns
returns c =
    least_end (λ t. length_of t c.args.docs.now.entries) c.rest.least c.length_of-least.result c.args.terms.now c.rest.term-index c.first-item.result
    (omega arith) c.first-item.is (search rules) (omega arith) c.rest.invariant
