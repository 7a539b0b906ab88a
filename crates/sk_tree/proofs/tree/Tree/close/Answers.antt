-- Nothing gives nothing.
use Rattle.std.proofs.Common.{ap}
use Rattle.sk_nodes.specs.Left.{rest}
use Rattle.sk_nodes.proofs.NodeLaws.{shape_of-Nothing}
use Rattle.sk_tree.proofs.TreeLaws.{weighed_ids-none, rare_closed, fades_closed}
use Rattle.sk_nodes.specs.declared.top.Top.{Top}
use Rattle.sk_nodes.specs.Shapes.{shape_of}
use Rattle.sk_tree.proofs.tree.Tree.close.Goals as goal

pub returns-clause-left : goal.returns-clause-left
returns-clause-left c i = weighed_ids-none _ i.live.documents (λ id. ap (λ s. rest i s id) shape_of-Nothing)

pub returns-clause-rare : goal.returns-clause-rare
returns-clause-rare c i most rare =
    let done = rare_closed i c.ended-self.result (shape_of c.args.self.now.node) _ c.args.self.now.spent most shape_of-Nothing (ap (λ (u : Top). u.head) c.ended-self.ensures) rare.account in
    record { led = done.0; at = done.1.0; account = done.1.1 }

pub returns-clause-decays : goal.returns-clause-decays
returns-clause-decays c i point greatest most decays =
    let done = fades_closed i (shape_of c.args.self.now.node) _ point greatest most c.args.self.now.spent decays.first shape_of-Nothing decays.account in
    record { first = decays.first; fading = done.0; account = done.1 }
