-- The head is the first that is left.
use Rattle.std.proofs.Common.{sym, ap}
use Rattle.sk_sorted.specs.Entries.{first_id}
use Rattle.sk_nodes.specs.Shapes.{shape_of}
use Rattle.sk_tree.proofs.TreeLaws.{top_left, top_ended}
use Rattle.sk_tree.proofs.tree.Tree.head.Goals as goal

pub returns-then-self-lt-END : goal.returns-then-self-lt-END
returns-then-self-lt-END c i on = sym (top_left i c.args.self.now.top (shape_of c.args.self.now.node) on.top on.sound on.documents c.if-self-lt-END.true).0

pub returns-else-self-lt-END : goal.returns-else-self-lt-END
returns-else-self-lt-END c i on = sym (ap first_id (top_ended i c.args.self.now.top (shape_of c.args.self.now.node) on.top c.if-self-lt-END.false).0)
