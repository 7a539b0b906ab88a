use Rattle.std.proofs.Common.{Some, None}
use Rattle.sk_io.proofs.LineEnds.{by_position, ends_behind, none_behind}
use Rattle.sk_io.proofs.window.end_from.Goals as goal

pub returns-in-Some : goal.returns-in-Some
returns-in-Some c =
    ends_behind c.args.bytes.now c.args.seen c.in-Some.at c.requires.inside c.requires.no_end (by_position _ (Some c.in-Some.at) c.in-Some.ensures)

pub returns-in-None : goal.returns-in-None
returns-in-None c = none_behind c.args.bytes.now c.args.seen c.requires.no_end (by_position _ None c.in-None.ensures)
