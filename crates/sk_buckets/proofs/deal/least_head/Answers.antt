use Rattle.std.proofs.Common.{arith}
use Rattle.std.proofs.lemmas.List.{at_drop_all}
use Rattle.sk_buckets.specs.Marks.{first_head}
use Rattle.sk_buckets.proofs.MarkLemmas.{head_small}
use Rattle.sk_buckets.proofs.deal.least_head.Goals as goal

pub loop-mark-init : goal.loop-mark-init
loop-mark-init c = record { small = omega arith; least = omega (arith, head_small c.args.marks.now) }

pub returns : goal.returns
returns c = omega (arith, c.loop-mark.invariant.small, c.loop-mark.invariant.least, at_drop_all first_head c.args.marks.now c.loop-mark.mark-index (omega arith))
