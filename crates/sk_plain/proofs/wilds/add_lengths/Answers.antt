use Rattle.std.proofs.Common.{length, min, drop, ◌+◌, arith, rules}
use Rattle.sk_base.specs.Numbers.{length_of}
use Rattle.sk_plain.specs.Wilds.{new_sum}
use Rattle.sk_plain.proofs.KeptLemmas.{cut}
use Rattle.sk_plain.proofs.WildLemmas.{new_more}
use Rattle.sk_plain.proofs.wilds.add_lengths.Goals as goal

pub terms-preserved : goal.terms-preserved
terms-preserved c =
    new_more (λ t. length_of t c.args.docs.now.entries) c.args.prefix.now (length c.args.docs.now.entries) c.terms.sum c.live_of-live.result c.last_length.result c.min-sum.result
    (min (length c.args.docs.now.entries) (c.args.sum + new_sum (λ t. length_of t c.args.docs.now.entries) c.args.prefix.now c.args.behind.now c.args.terms.now))
    c.args.behind.now c.one-item.result (drop c.terms.one-index c.args.terms.now) (drop (c.terms.one-index + 1) c.args.terms.now)
    (cut c.args.terms.now c.terms.one-index c.one-item.result (omega arith) c.one-item.is)
    c.last_length.ensures.value c.live_of-live.ensures.value (search rules) c.terms.invariant
