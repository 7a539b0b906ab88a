use Rattle.sk_sorted.specs.Runs.{flat}
use Rattle.sk_values.proofs.RangeLaws.{head_is}
use Rattle.sk_values.proofs.range_cursor.RangeCursor.head.Goals as goal

pub returns : goal.returns
returns c list on = head_is c.args.self.now.bounds.lo c.args.self.now.bounds.hi c.args.self.now.head c.args.self.now.place.passed (flat list) on.head
