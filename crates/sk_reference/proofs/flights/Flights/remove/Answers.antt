use Rattle.std.proofs.Common.{◌∙◌, ap}
use Rattle.sk_report.specs.Flights.{owed}
use Rattle.sk_reference.proofs.FlightLaws.{flights_of, kept_without, owes_same}
use Rattle.sk_reference.proofs.flights.Flights.remove.Goals as goal

pub invariant_of-self : goal.invariant_of-self
invariant_of-self c = kept_without c.args.number (flights_of c.self.inside.searches.entries c.self.inside.opened) c.remove.new.self.entries c.remove.ensures.entries c.self.invariant

pub returns-clause-unread : goal.returns-clause-unread
returns-clause-unread c =
    owes_same (flights_of c.self.inside.searches.entries c.self.inside.opened) (flights_of c.remove.new.self.entries c.self.inside.opened) c.self.invariant (invariant_of-self c) ∙ ap owed c.self.view_is
