use Rattle.sk_io.proofs.LineEnds.{has_end}
use Rattle.sk_io.proofs.lines.Lines.waits.Goals as goal

pub returns : goal.returns
returns c = has_end _ _ c.end_from.result _ c.pending.ensures c.end_from.ensures c.is_some.ensures
