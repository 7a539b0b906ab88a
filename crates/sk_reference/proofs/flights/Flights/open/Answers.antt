use Rattle.std.proofs.Common.{◌∙◌, ap, rules}
use Rattle.sk_report.specs.Flights.{owed}
use Rattle.sk_reference.specs.Searches.{with_search}
use Rattle.sk_reference.proofs.FlightLaws.{flights_of, kept_put, opened_with, owes_same}
use Rattle.sk_reference.proofs.flights.Flights.open.Goals as goal

pub invariant_of-self-2 : goal.invariant_of-self-2
invariant_of-self-2 c =
    kept_put c.in_ok-number.number c.args.search (flights_of c.self.inside.searches.entries c.self.inside.opened) c.insert.new.self.entries (search rules) (search rules) c.requires c.self.invariant

pub returns-clause-unread : goal.returns-clause-unread
returns-clause-unread c =
    owes_same (flights_of c.self.inside.searches.entries c.self.inside.opened) (flights_of c.insert.new.self.entries c.in_ok-number.number) c.self.invariant (invariant_of-self-2 c) ∙ ap owed c.self.view_is

pub returns-clause-opened : goal.returns-clause-opened
returns-clause-opened c =
    opened_with c.in_ok-number.number c.args.search (flights_of c.self.inside.searches.entries c.self.inside.opened) c.insert.new.self.entries (search rules) (search rules) c.self.invariant
    ∙ ap (with_search c.args.search) c.self.view_is
