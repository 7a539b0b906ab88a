use Rattle.std.proofs.Common.{◌≡◌, ℕ, map, ◌++◌}
use Rattle.std.specs.Map.{keys_of}
use Rattle.sk_reference.proofs.flights.none_each.Given as goal

-- one for each so far, and one for each that is left
abbrev pub invariant-searches : goal.invariant-searches
invariant-searches l = l.readings.items ++ map {B = ℕ × ℕ} (λ (number : ℕ). (number, 0)) l.number-iterator ≡ map {B = ℕ × ℕ} (λ (number : ℕ). (number, 0)) (keys_of l.searches.entries)
