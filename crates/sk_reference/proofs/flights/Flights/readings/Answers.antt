use Rattle.std.proofs.Common.{◌≡◌, ◌∙◌, ℕ, map, ap, rules}
use Rattle.std.specs.Map.{keys_of}
use Rattle.sk_report.specs.Flights.{readings_open}
use Rattle.sk_reference.proofs.FlightLaws.{flights_of, readings_none}
use Rattle.sk_reference.proofs.flights.Flights.readings.Goals as goal

pub returns-clause-value : goal.returns-clause-value
returns-clause-value c =
    let made : c.in_ok-readings.readings.items ≡ map {B = ℕ × ℕ} (λ (number : ℕ). (number, 0)) (keys_of c.self.inside.searches.entries) = search rules in
    c.from_vec.ensures ∙ made ∙ readings_none (flights_of c.self.inside.searches.entries c.self.inside.opened) c.self.invariant ∙ ap readings_open c.self.view_is
