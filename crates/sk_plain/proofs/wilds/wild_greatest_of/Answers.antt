use Rattle.std.proofs.Common.{◌^◌, ◌-◌, min, rules}
use Rattle.sk_base.specs.Numbers.{greatest_of}
use Rattle.sk_plain.specs.Wilds.{wild_sum}
use Rattle.sk_plain.proofs.WildLemmas.{wild_step, wild_end}
use Rattle.sk_plain.proofs.wilds.wild_greatest_of.Goals as goal

pub docs-preserved : goal.docs-preserved
docs-preserved c =
    wild_step (λ t. greatest_of t c.args.docs.now.entries) c.args.prefix.now (2 ^ 29 - 1) c.docs.sum c.add_greatests-sum.result
    (min (2 ^ 29 - 1) (wild_sum (λ t. greatest_of t c.args.docs.now.entries) c.args.prefix.now c.args.docs.now.entries))
    (c.in-Some.field-0-0.now, c.in-Some.doc.now) c.docs.left c.next.new.self
    (search rules) (search rules) c.docs.invariant

pub returns-clause-value : goal.returns-clause-value
returns-clause-value c =
    wild_end (λ t. greatest_of t c.args.docs.now.entries) c.args.prefix.now (2 ^ 29 - 1) c.docs.sum c.docs.left c.args.docs.now.entries
    (search rules) c.docs.invariant
