-- The shape of what weighs sums.
use Rattle.std.proofs.Common.{ap, ◌∙◌}
use Rattle.sk_nodes.specs.Shapes.{synonym, shape_of}
use Rattle.sk_nodes.proofs.NodeLaws.{shape_of-Synonym}
use Rattle.sk_nodes.proofs.begun.synonym_over.Goals as goal

pub returns-clause-shape : goal.returns-clause-shape
returns-clause-shape c = shape_of-Synonym _ _ _ _ ∙ ap (λ n. synonym c.args.scheme c.args.factor c.args.below (shape_of n)) c.in_ok-node.ensures.ok
