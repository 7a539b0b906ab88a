-- A number is told of by each zone that has it.
use Rattle.sk_values.proofs.ZoneLaws.{tells_number}
use Rattle.sk_values.proofs.zones.ends_of.Goals as goal

pub returns-in-Some : goal.returns-in-Some
returns-in-Some c z from to = tells_number c.in-Some.n c.args.value.now z c.in-Some.ensures from to
