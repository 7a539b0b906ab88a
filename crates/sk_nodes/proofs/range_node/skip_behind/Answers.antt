-- The node is the range still.
use Rattle.std.proofs.Common.{rules}
use Rattle.sk_nodes.proofs.RangeLaws.{shape_of-Range, range_shape}
use Rattle.sk_nodes.proofs.RangeSkipLaws.{node_skips}
use Rattle.sk_nodes.proofs.range_node.skip_behind.Goals as goal

pub returns-in-Range-clause-some : goal.returns-in-Range-clause-some
returns-in-Range-clause-some g c =
    node_skips c.args.index.now c.args.key c.args.last.now c.skip_behind.result _ c.skip_behind.new.self _ _ c.skip_behind.new.top
    (range_shape c.args.node.now c.in-Range.range _ c.in-Range.is c.in-Range.range-is) (search (rules, shape_of-Range)) c.skip_behind.ensures.some
