use Rattle.std.proofs.Common.{◌∙◌}
use Rattle.sk_flight.proofs.OpenLemmas.{all_may, spent_seen, if_ok, ok_anyway}
use Rattle.sk_flight.proofs.flights.Flights.readings.Goals as goal

pub returns-clause-value : goal.returns-clause-value
returns-clause-value c = rw (← c.self.view_is) (if_ok c.readings_of.result (λ readings is. is ∙ spent_seen c.self.inside.opened c.self.inside.flights.entries) c.readings_of.ensures)

pub returns-clause-may : goal.returns-clause-may
returns-clause-may c = rw (← c.self.view_is) (ok_anyway c.readings_of.result (all_may c.self.inside.opened c.self.inside.flights.entries c.self.invariant.flights))
