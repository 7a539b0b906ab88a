-- Weights begin where the wdfs do.
use Rattle.std.proofs.Common.{sym, subst, refl, arith}
use Rattle.sk_nodes.specs.declared.top.Top.{Top}
use Rattle.sk_nodes.specs.Shapes.{synonym}
use Rattle.sk_nodes.specs.Sound.{IsTop}
use Rattle.sk_nodes.proofs.SumLaws.{sums_top, sums_ended}
use Rattle.sk_nodes.proofs.top.Top.weigh.Goals as goal

pub returns-then-self-ge-END-clause-top : goal.returns-then-self-ge-END-clause-top
returns-then-self-ge-END-clause-top c i s is =
    subst (λ (u : Top). IsTop i u (synonym c.args.scheme c.args.factor c.args.self.now s)) (sym c.ended.ensures) (sums_ended i c.args.scheme c.args.factor c.args.self.now s is (omega (arith, c.if-self-ge-END.true)))

pub returns-clause-top : goal.returns-clause-top
returns-clause-top c i s is =
    sums_top i c.args.scheme c.args.factor c.args.self.now _ s is (omega (arith, c.if-self-ge-END.false)) refl c.weigh_by-top.ensures.value c.weigh_by-top-2.ensures.value
