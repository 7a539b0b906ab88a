use Rattle.sk_reference.proofs.FlightLaws.{flights_of, stands_behind}
use Rattle.sk_reference.proofs.flights.Flights.get.Goals as goal

pub returns-clause-stands : goal.returns-clause-stands
returns-clause-stands c = stands_behind c.args.number (flights_of c.self.inside.searches.entries c.self.inside.opened) c.get.result c.self.invariant c.get.ensures.value
