-- What ends at an id each.
use Rattle.std.specs.Prelude.{ℕ, ◌≤◌, List, [], ◌∷◌}

-- None ends before the one that it follows, and the first not before `low`.
abbrev pub EndsRise : {R : Type 0} → (R → ℕ) → ℕ → List R → Type 0
EndsRise end low [] = Unit {0}
EndsRise end low (r ∷ rs) = (low ≤ end r) × EndsRise end (end r) rs
