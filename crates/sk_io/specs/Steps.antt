-- The steps of a reader of lines, for the functions below `next`.
use Rattle.std.specs.Prelude.{◌≡◌, ℕ, ◌+◌, ◌^◌, ◌<◌, ◌≤◌, ◌⊎◌, true, List, [], ◌∷◌, ◌++◌, length, take, drop, Option, None, Some, Result, Ok, Err, IsErrOf}
use Rattle.std.specs.Io.KnownBytes.{Keeps, Consumes, IsAtEnd}
use Rattle.sk_io.specs.declared.line.LineStop.{LineStop}
use Rattle.sk_io.specs.declared.line.LineStop.TheVariants.{Failed, TooMuch}
use Rattle.sk_io.specs.declared.found.LineEnd.{LineEnd}
use Rattle.sk_io.specs.declared.found.LineEnd.TheVariants.{At, Far, Nowhere}
use Rattle.sk_io.specs.declared.found.Found.{Found}
use Rattle.sk_io.specs.declared.found.Found.TheVariants.{End, Whole, TooLong}
use Rattle.sk_io.specs.Causes.{Rose}
use Rattle.sk_io.specs.LineText.{most_line, NoLineEnd}
use Rattle.sk_io.specs.Reading.{Reader, pending, reach, StreamIs, Outcome, ended, whole, too_long, stopped}

-- The first line's end stands at `at`.
pub record EndsAt (bytes : List ℕ) (at : ℕ) : Type 0 where
  pub no_end : NoLineEnd (take at bytes)
  pub inside : at < length bytes
  pub is : bytes ≡ take at bytes ++ 10 ∷ drop (at + 1) bytes

-- n bytes were taken from a source and written into a buffer at `end`
pub record WritesBehind (old new : List ℕ) (left left' : Option (List ℕ)) (end most n : ℕ) : Type 0 where
  pub bound : n ≤ most
  pub taken : List ℕ
  pub count : length taken ≡ n
  pub front : take (end + n) new ≡ take end old ++ taken
  pub told : Consumes left left' taken
  pub at_end : n ≡ 0 → IsAtEnd left'

-- n bytes were taken from a source and are held behind the others
pub record TakesMore (old new : List ℕ) (left left' : Option (List ℕ)) (most n : ℕ) : Type 0 where
  pub bound : n ≤ most
  pub taken : List ℕ
  pub count : length taken ≡ n
  pub held : new ≡ old ++ taken
  pub told : Consumes left left' taken
  pub at_end : n ≡ 0 → IsAtEnd left'

-- The reader has not stopped, and no byte that it holds was given.
pub record IsOpen (r : Reader) : Type 0 where
  pub none_given : r.given ≡ 0
  pub goes : r.stopped ≡ None

-- n bytes more are held; none only where the source's end was reached, now or before
pub record Fills (old : Reader) (left : Option (List ℕ)) (new : Reader) (left' : Option (List ℕ)) (n : ℕ) : Type 0 where
  pub is_open : IsOpen new
  pub had_room : 0 < old.room
  pub room : new.room + n ≡ old.room
  pub taken : List ℕ
  pub count : length taken ≡ n
  pub held : new.held ≡ old.held ++ taken
  pub told : Consumes left left' taken
  pub ended : n ≡ 0 → new.ended ≡ true
  pub at_end : new.ended ≡ true → IsAtEnd left' ⊎ (old.ended ≡ true)

-- No byte more could be taken.
pub record Halts (old : Reader) (left : Option (List ℕ)) (new : Reader) (left' : Option (List ℕ)) (why : LineStop) : Type 0 where
  pub is : new ≡ record old { stopped = Some why }
  pub full : why ≡ TooMuch → old.room ≡ 0
  pub keeps : Keeps left left'

-- s begins with `over`, and goes on behind it
pub record GoesOnBehind (over : List ℕ) (new : Reader) (left' : Option (List ℕ)) (s : List ℕ) : Type 0 where
  pub rest : List ℕ
  pub is : s ≡ over ++ rest
  pub stream : StreamIs new left' rest

-- The source tells what it has left, and as much was taken off it as off the room.
pub record Tells (old new : Reader) (left' : Option (List ℕ)) (rest : List ℕ) : Type 0 where
  pub rest' : List ℕ
  pub told : left' ≡ Some rest'
  pub charged : new.room + length rest ≡ old.room + length rest'

-- The bytes `over` were passed over, and nothing else.
pub record Passes (old : Reader) (left : Option (List ℕ)) (new : Reader) (left' : Option (List ℕ)) (over : List ℕ) : Type 0 where
  pub count : reach new + length over ≡ reach old
  pub behind : (s : List ℕ) → StreamIs old left s → GoesOnBehind over new left' s
  pub tells : (rest : List ℕ) → left ≡ Some rest → Tells old new left' rest

-- The reader stopped in a line of which `over` was passed over.
pub record Halted (old : Reader) (left : Option (List ℕ)) (new : Reader) (left' : Option (List ℕ)) (why : LineStop) : Type 0 where
  pub over : List ℕ
  pub passes : Passes old left new left' over
  pub no_end : NoLineEnd (over ++ new.held)
  pub none_given : new.given ≡ 0
  pub stopped_for : new.stopped ≡ Some why
  pub full : why ≡ TooMuch → new.room ≡ 0

-- No line's end is left, neither here nor in the source.
pub record NoneLeft (new : Reader) : Type 0 where
  pub no_end : NoLineEnd new.held
  pub short : length new.held ≤ most_line
  pub more_room : 0 < new.room
  pub ended : new.ended ≡ true

-- A line that is longer than a line may be, so far.
pub record IsFar (new : Reader) : Type 0 where
  pub no_end : NoLineEnd new.held
  pub long : most_line < length new.held

-- The first line's end is held, and what follows it has a place.
pub record EndIsHeld (new : Reader) (at : ℕ) : Type 0 where
  pub ends : EndsAt new.held at
  pub fits : at + 1 < 2 ^ 64

-- Where the first line ends.
abbrev pub IsSought : Reader → LineEnd → Type 0
IsSought new (At at) = EndIsHeld new at
IsSought new Far = IsFar new
IsSought new Nowhere = NoneLeft new

-- The end of the first line was sought, and all that was taken is held.
pub record Sought (old : Reader) (left : Option (List ℕ)) (new : Reader) (left' : Option (List ℕ)) (end : LineEnd) : Type 0 where
  pub is_open : IsOpen new
  pub passes : Passes old left new left' []
  pub sought : IsSought new end

-- Nothing is held, and the source's end was reached.
pub record IsOver (new : Reader) : Type 0 where
  pub none_held : pending new ≡ []
  pub ended : new.ended ≡ true

-- The rest of a line was passed over: up to its end, or to the end of the source.
pub record Skips (old : Reader) (left : Option (List ℕ)) (new : Reader) (left' : Option (List ℕ)) : Type 0 where
  pub goes : new.stopped ≡ None
  pub line : List ℕ
  pub no_end : NoLineEnd line
  pub long : length old.held ≤ length line
  pub passes : Passes old left new left' (line ++ 10 ∷ []) ⊎ (Passes old left new left' line × IsOver new)

-- The count of faults does not fall, and the stop `Failed` comes only where it rose.
pub record FailHasCause {T : Type 0} (before now : ℕ) (result : Result T LineStop) : Type 0 where
  pub later : before ≤ now
  pub failed : IsErrOf result Failed → Rose before now

-- What was found, by the length of a line.
abbrev pub found_outcome : Reader → Result Found LineStop → Outcome
found_outcome new (Ok End) = ended
found_outcome new (Ok (Whole n)) = whole (take n new.held)
found_outcome new (Ok TooLong) = too_long
found_outcome new (Err why) = stopped why

-- A line that was found is held, and no longer than a line may be.
abbrev pub IsWithin : Reader → Found → Type 0
IsWithin new End = Unit {0}
IsWithin new (Whole n) = (n ≤ length new.held) × (n ≤ most_line)
IsWithin new TooLong = Unit {0}

-- An end was found.
abbrev pub EndIsFound : Result LineEnd LineStop → Type 0
EndIsFound (Ok (At at)) = Unit {0}
EndIsFound (Ok Far) = ⊥
EndIsFound (Ok Nowhere) = ⊥
EndIsFound (Err why) = ⊥

-- A line was found.
abbrev pub LineIsFound : Result Found LineStop → Type 0
LineIsFound (Ok End) = ⊥
LineIsFound (Ok (Whole n)) = Unit {0}
LineIsFound (Ok TooLong) = Unit {0}
LineIsFound (Err why) = ⊥
