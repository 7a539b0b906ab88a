-- It has the numbers of a zone of this value.
use Rattle.std.proofs.Common.{arith}
use Rattle.sk_values.proofs.zones.Zone.widen.Goals as goal

pub returns-clause-tells : goal.returns-clause-tells
returns-clause-tells c = c.ends_of-least.ensures (record { least = c.min-self.result; greatest = c.max-self.result }) (omega (arith, c.min-self.ensures)) (omega (arith, c.max-self.ensures))
