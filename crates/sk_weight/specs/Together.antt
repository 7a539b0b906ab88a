-- The bounds of parts, taken together one after the other.
use Rattle.std.specs.Prelude.{◌≡◌, ℕ, ◌+◌, ◌-◌, ◌^◌, min, max, unwrap_or, List, [], ◌∷◌, Option, None, Some}
use Rattle.std.specs.Option.{option_or}
use Rattle.sk_model.specs.Bounds.{sum_in, greatest_in, least_in, first_in}
use Rattle.sk_weight.specs.declared.together.Together.{Together}

-- No bound yet.
abbrev pub nothing_yet : Together
nothing_yet = record { first = None; least = None; greatest = 0; sum = 0 }

-- The lesser of the least so far, if there is one, and a bound.
abbrev pub least_with : Option ℕ → ℕ → ℕ
least_with None b = b
least_with (Some least) b = min least b

-- One bound more.
abbrev pub with_bound : Together → ℕ → Together
with_bound t b = record { first = option_or t.first (Some b); least = Some (least_with t.least b); greatest = max t.greatest b; sum = min (2 ^ 128 - 1) (t.sum + b) }

-- All of these more.
abbrev pub with_bounds : Together → List ℕ → Together
with_bounds t [] = t
with_bounds t (b ∷ bounds) = with_bounds (with_bound t b) bounds

-- It is made of these bounds: the first, the least and the greatest of them, and their sum as far as 128 bits go.
pub record IsTogether (t : Together) (bounds : List ℕ) : Type 0 where
  pub first : unwrap_or t.first 0 ≡ first_in bounds
  pub least : unwrap_or t.least 0 ≡ least_in bounds
  pub greatest : t.greatest ≡ greatest_in bounds
  pub sum : t.sum ≡ min (2 ^ 128 - 1) (sum_in bounds)
