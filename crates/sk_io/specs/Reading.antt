-- What a reader of lines holds, and what a call of it answers.
use Rattle.std.specs.Prelude.{◌≡◌, ℕ, ◌+◌, Bool, true, List, [], ◌++◌, length, drop, Option, None, Some, Result, Ok, Err}
use Rattle.sk_io.specs.declared.line.LineStop.{LineStop}
use Rattle.sk_io.specs.declared.line.Line.{Line}
use Rattle.sk_io.specs.declared.line.Line.TheVariants.{Whole, TooLong}

-- What a reader of lines holds.
pub record Reader : Type 0 where
  pub held : List ℕ  -- the bytes that were taken and not yet dropped
  pub given : ℕ  -- how many of them, at the front, belong to the line given last
  pub room : ℕ  -- how many bytes may still be taken
  pub stopped : Option LineStop  -- the stop that was answered
  pub ended : Bool  -- the source's end was reached

-- The bytes that were taken and not yet given.
abbrev pub pending : Reader → List ℕ
pending r = drop r.given r.held

-- How many bytes a reader can still give.
abbrev pub reach : Reader → ℕ
reach r = length (pending r) + r.room

-- The bytes still to come: those that are pending, and those that the source has left, which are none once its end was reached.
pub record StreamIs (r : Reader) (left : Option (List ℕ)) (s : List ℕ) : Type 0 where
  pub rest : List ℕ
  pub told : left ≡ Some rest
  pub is : s ≡ pending r ++ rest
  pub at_end : r.ended ≡ true → rest ≡ []

-- What a call of `next` answered.
pub data Outcome : Type 0 where
  ended : Outcome
  whole : List ℕ → Outcome
  too_long : Outcome
  stopped : LineStop → Outcome

-- What a result of `next` says.
abbrev pub line_outcome : Result (Option Line) LineStop → Outcome
line_outcome (Ok None) = ended
line_outcome (Ok (Some (Whole line))) = whole line.now
line_outcome (Ok (Some TooLong)) = too_long
line_outcome (Err why) = stopped why
