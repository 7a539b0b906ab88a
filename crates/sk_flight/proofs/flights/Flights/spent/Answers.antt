use Rattle.std.proofs.Common.{rules, ◌≡◌, Some, None, option_map, sym, ap, ◌∙◌}
use Rattle.sk_report.specs.Flights.{Open}
use Rattle.sk_flight.proofs.OpenLemmas.{open_there, not_open, may_there}
use Rattle.sk_flight.proofs.flights.Flights.spent.Goals as goal

pub returns-in_err-flight-clause-value : goal.returns-in_err-flight-clause-value
returns-in_err-flight-clause-value c =
    let none = not_open c.args.number c.self.inside.opened c.self.inside.flights.entries (sym c.in_err-flight.ensures.value) in
    rw (← c.self.view_is) (c.from_residual.ensures ∙ sym (ap (option_map (λ (search : Open). search.spent)) none))

pub returns-in_err-flight-clause-may : goal.returns-in_err-flight-clause-may
returns-in_err-flight-clause-may c = rw (← c.self.view_is) (may_there c.args.number c.self.inside.opened c.self.inside.flights.entries c.self.invariant.flights)

pub returns-clause-value : goal.returns-clause-value
returns-clause-value c =
    let there = open_there c.args.number c.self.inside.opened c.self.inside.flights.entries (Some c.in_ok-flight.flight.now) (sym c.in_ok-flight.ensures.value) in
    rw (← c.self.view_is) (ap Some c.spent.ensures ∙ sym (ap (option_map (λ (search : Open). search.spent)) there))

pub returns-clause-may : goal.returns-clause-may
returns-clause-may c = rw (← c.self.view_is) (may_there c.args.number c.self.inside.opened c.self.inside.flights.entries c.self.invariant.flights)
