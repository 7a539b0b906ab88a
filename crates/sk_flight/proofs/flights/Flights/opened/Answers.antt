use Rattle.sk_flight.specs.Kept.{open_of}
use Rattle.sk_flight.proofs.FreshLemmas.{none_above}
use Rattle.sk_flight.proofs.flights.Flights.opened.Goals as goal

pub returns-clause-fresh : goal.returns-clause-fresh
returns-clause-fresh c = λ number. rw (← c.self.view_is) (λ above. none_above open_of c.self.inside.opened number above c.self.inside.flights.entries c.self.invariant.numbers)
