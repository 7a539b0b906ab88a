-- Where the sides of an xor of many sides begin together.
use Rattle.std.specs.Prelude.{◌≡◌, ◌≤◌, ◌<◌, ◌^◌, ℕ, List, Option}
use Rattle.sk_model.specs.Combining.{sum_of_any, number_matching, is_odd}
use Rattle.sk_index.specs.Indexed.{Indexed}
use Rattle.sk_decay.specs.declared.meeting.Meeting.{Meeting}
use Rattle.sk_decay.specs.Heads.{IsHead, GoesOn}
use Rattle.sk_nodes.specs.declared.xor_many.Tally.{Tally}
use Rattle.sk_nodes.specs.Shapes.{Sides, xor_many}
use Rattle.sk_nodes.specs.Left.{rest}

-- Where the first of all these begins, what they weigh there, and whether an odd number of them is there.
pub record IsTally (f : ℕ → List (Option ℕ)) (t : Tally) : Type 0 where
  pub head : IsHead t.head t.weight (λ id. sum_of_any (f id))
  pub parity : t.head < 2 ^ 32 → is_odd (number_matching (f t.head)) ≡ t.odd

-- An xor begins there, or lies behind.
abbrev pub XorMeets : Indexed → ℕ → Sides → Meeting → Type 0
XorMeets i from ss (Meeting.At h w) = IsHead h w (rest i (xor_many ss)) × (from ≤ h)
XorMeets i from ss (Meeting.Behind next) = GoesOn from next (rest i (xor_many ss))
