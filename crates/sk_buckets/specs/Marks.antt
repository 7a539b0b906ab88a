-- Where lists stand, and what that gives together.
-- Source: The first id and the sum at it are those of a merge of lists; that a list never weighs more than its greatest is own.
use Rattle.std.specs.Prelude.{ℕ, ◌≤◌, ◌<◌, ◌+◌, ◌^◌, ◌==◌, min, List, [], ◌∷◌, length, All, if◌then◌else◌}
use Rattle.sk_buckets.specs.declared.mark.Mark.{Mark}

-- The least id at which one stands; 2 ^ 32 where none does.
abbrev pub first_head : List Mark → ℕ
first_head [] = 2 ^ 32
first_head (m ∷ ms) = min m.head (first_head ms)

-- What those weigh together that stand at an id.
abbrev pub weight_at : ℕ → List Mark → ℕ
weight_at id [] = 0
weight_at id (m ∷ ms) = (if m.head == id then m.weight else 0) + weight_at id ms

-- What all can weigh together.
abbrev pub greatest_of : List Mark → ℕ
greatest_of [] = 0
greatest_of (m ∷ ms) = m.greatest + greatest_of ms

-- A list stands at an id or has ended, and weighs no more there than it can.
pub record IsMark (m : Mark) : Type 0 where
  pub within : m.head ≤ 2 ^ 32
  pub light : m.weight ≤ m.greatest

-- Marks that can be kept together.
pub record AreMarks (ms : List Mark) : Type 0 where
  pub each : All IsMark ms
  pub few : length ms < 2 ^ 32
  pub fits : greatest_of ms < 2 ^ 63
