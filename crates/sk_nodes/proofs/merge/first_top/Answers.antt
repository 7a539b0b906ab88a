-- What the queue says of the first is where all begin together.
use Rattle.std.proofs.Common.{◌∙◌, sym, subst, ap, arith}
use Rattle.sk_buckets.specs.Marks.{greatest_of}
use Rattle.sk_nodes.specs.declared.top.Top.{Top}
use Rattle.sk_nodes.specs.Shapes.{or_many, merged}
use Rattle.sk_nodes.specs.Sound.{IsTop}
use Rattle.sk_nodes.proofs.MergeLaws.{first_top, first_gone}
use Rattle.sk_nodes.proofs.merge.first_top.Goals as goal

pub returns-then-first-ge-END-clause-top : goal.returns-then-first-ge-END-clause-top
returns-then-first-ge-END-clause-top c i ls sound =
    subst (λ (t : Top). IsTop i t (or_many (merged c.args.queue.now ls))) (sym c.ended.ensures) (first_gone i c.args.queue.now ls c.first-first.result.head sound c.first-first.ensures.head (omega (arith, c.if-first-ge-END.true)))

pub returns-clause-top : goal.returns-clause-top
returns-clause-top c i ls sound =
    first_top i c.args.queue.now ls c.first-first.result.head c.from.result c.from-2.result sound c.first-first.ensures.head (c.from.ensures ∙ c.first-first.ensures.weight (omega (arith, c.if-first-ge-END.false))) (c.from-2.ensures ∙ c.greatest.ensures ∙ ap greatest_of c.first-first.ensures.same) (omega (arith, c.if-first-ge-END.false))
