use Rattle.std.proofs.Common.{◌∙◌, ap, rules}
use Rattle.sk_report.specs.Flights.{owed}
use Rattle.sk_reference.proofs.FlightLaws.{flights_of, kept_set, owes_same}
use Rattle.sk_reference.proofs.flights.Flights.turn.Goals as goal

pub invariant_of-self-2 : goal.invariant_of-self-2
invariant_of-self-2 c =
    kept_set c.args.number c.turn.new.self (flights_of c.self.inside.searches.entries c.self.inside.opened) (c.get_mut.follows.lender c.turn.new.self).entries (search rules) c.turn.ensures.stands
    c.self.invariant

pub returns-clause-unread : goal.returns-clause-unread
returns-clause-unread c =
    owes_same (flights_of c.self.inside.searches.entries c.self.inside.opened) (flights_of (c.get_mut.follows.lender c.turn.new.self).entries c.self.inside.opened) c.self.invariant (invariant_of-self-2 c)
    ∙ ap owed c.self.view_is
