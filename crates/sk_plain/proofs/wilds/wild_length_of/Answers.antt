use Rattle.std.proofs.Common.{length, min, rules}
use Rattle.sk_base.specs.Numbers.{length_of}
use Rattle.sk_plain.specs.Wilds.{wild_sum}
use Rattle.sk_plain.proofs.WildLemmas.{wild_step, wild_end}
use Rattle.sk_plain.proofs.wilds.wild_length_of.Goals as goal

pub docs-preserved : goal.docs-preserved
docs-preserved c =
    wild_step (λ t. length_of t c.args.docs.now.entries) c.args.prefix.now (length c.args.docs.now.entries) c.docs.sum c.add_lengths-sum.result
    (min (length c.args.docs.now.entries) (wild_sum (λ t. length_of t c.args.docs.now.entries) c.args.prefix.now c.args.docs.now.entries))
    (c.in-Some.field-0-0.now, c.in-Some.doc.now) c.docs.left c.next.new.self
    (search rules) (search rules) c.docs.invariant

pub returns-clause-value : goal.returns-clause-value
returns-clause-value c =
    wild_end (λ t. length_of t c.args.docs.now.entries) c.args.prefix.now (length c.args.docs.now.entries) c.docs.sum c.docs.left c.args.docs.now.entries
    (search rules) c.docs.invariant
