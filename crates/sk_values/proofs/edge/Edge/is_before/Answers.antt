use Rattle.std.proofs.Common.{ap, ◌∙◌}
use Rattle.std.proofs.lemmas.Bool.{ltb-true}
use Rattle.sk_values.specs.Behind.{is_behind}
use Rattle.sk_values.proofs.SkipLaws.{above_behind, below_behind}
use Rattle.sk_values.proofs.edge.Edge.is_before.Goals as goal

pub returns-then-self : goal.returns-then-self
returns-then-self c lt last number =
    ap (λ b. is_behind b last c.args.value.now) c.if-self.true
    ∙ below_behind c.args.self.now.number c.in-Some.number last c.args.value.now number c.in-Some.ensures (ltb-true c.in-Some.number c.args.self.now.number lt)

pub returns-else-self : goal.returns-else-self
returns-else-self c lt last number =
    ap (λ b. is_behind b last c.args.value.now) c.if-self.false
    ∙ above_behind c.args.self.now.number c.in-Some.number last c.args.value.now number c.in-Some.ensures (ltb-true c.args.self.now.number c.in-Some.number lt)
