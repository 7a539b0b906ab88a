-- A test that was moved on without a need gives what passes it.
use Rattle.std.proofs.Common.{ap, ◌∙◌}
use Rattle.sk_nodes.specs.Shapes.{positional, shape_of}
use Rattle.sk_nodes.proofs.NodeLaws.{shape_of-Positional}
use Rattle.sk_nodes.proofs.ProximityLaws.{positional_yields}
use Rattle.sk_nodes.proofs.begun.positional_of.Goals as goal

pub returns-clause-yields : goal.returns-clause-yields
returns-clause-yields g c =
    let shape = shape_of-Positional _ _ _ ∙ ap (λ n. positional c.seek_positional.new.test c.seek_positional.new.below (shape_of n)) c.in_ok-node.ensures.ok in
    positional_yields c.args.index.now c.args.test c.seek_positional.new.test c.args.below c.seek_positional.new.below (shape_of c.args.node) (shape_of c.seek_positional.new.node) _ c.seek_positional.new.top c.seek_positional.ensures.lands c.seek_positional.ensures.falls shape
