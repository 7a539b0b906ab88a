-- More sides.
use Rattle.std.proofs.Common.{◌∙◌}
use Rattle.sk_nodes.specs.Shapes.{sides_on}
use Rattle.sk_nodes.proofs.ManyLaws.{sides_append}
use Rattle.sk_nodes.proofs.begun.with_more.Goals as goal

pub returns-clause-sides : goal.returns-clause-sides
returns-clause-sides c =
    (λ j. sides_on (c.in_ok-append.ensures.items j) (c.in_ok-append-2.ensures.items j))
    ∙ sides_append c.args.tops.items c.args.more_tops.items c.args.nodes.items c.args.more_nodes.items c.requires.even
