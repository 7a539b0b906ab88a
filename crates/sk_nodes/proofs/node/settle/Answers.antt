-- A node covers itself.
use Rattle.sk_nodes.specs.Shapes.{shape_of}
use Rattle.sk_nodes.proofs.NodeLaws.{decays_itself}
use Rattle.sk_nodes.proofs.node.settle.Goals as goal

pub returns-then-is_settled-clause-decays : goal.returns-then-is_settled-clause-decays
returns-then-is_settled-clause-decays c i sound = decays_itself i c.args.need (shape_of c.args.node.now) sound
