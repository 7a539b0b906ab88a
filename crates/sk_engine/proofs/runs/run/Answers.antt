use Rattle.sk_report.specs.Flights.{MayBeOpen, owed}
use Rattle.sk_flight.specs.Told.{Tells}
use Rattle.sk_run.specs.Held.{Held}
use Rattle.sk_run.proofs.HeldLaws.{held_pays}
use Rattle.sk_engine.specs.Sessions.{MayFind, MayCount}
use Rattle.sk_engine.proofs.runs.run.Goals as goal

-- A session pays what its searches in flight owe.
pub returns-clause-told : goal.returns-clause-told
returns-clause-told g c = λ form. c.readings_are_told.ensures (λ (held : Held). owed held.flights) (held_pays MayBeOpen Tells MayFind MayCount) form _ _ _
