use Rattle.std.proofs.Common.{ap, ◌∙◌}
use Rattle.sk_flight.specs.Kept.{flights_in}
use Rattle.sk_flight.proofs.OpenLemmas.{without_is, on_err, on_ok}
use Rattle.sk_flight.proofs.flights.Flights.turns.Goals as goal

pub invariant_of-self : goal.invariant_of-self
invariant_of-self g c = c.turns_of.ensures.kept c.self.inside.opened c.self.invariant

pub returns-clause-gone : goal.returns-clause-gone
returns-clause-gone g c =
    rw (← c.self.view_is)
    (on_err c.turns_of.result (λ is. ap (λ xs. flights_in xs c.self.inside.opened) is ∙ without_is c.args.number c.self.inside.opened c.self.inside.flights.entries) c.turns_of.ensures.gone)

pub returns-clause-cost : goal.returns-clause-cost
returns-clause-cost g c = rw (← c.self.view_is) (on_ok c.turns_of.result (λ paid. paid c.self.inside.opened) c.turns_of.ensures.cost)

pub returns-clause-succeeds : goal.returns-clause-succeeds
returns-clause-succeeds g c = rw (← c.self.view_is) (λ none. c.turns_of.ensures.succeeds c.self.inside.opened none)
