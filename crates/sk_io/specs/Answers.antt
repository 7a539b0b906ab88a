-- What each answer of a reader of lines means.
use Rattle.std.specs.Prelude.{◌≡◌, ℕ, ◌+◌, ◌<◌, ◌≤◌, ◌⊎◌, true, List, [], ◌++◌, length, Option, None, Some, Result, Ok, Err, IsErrOf}
use Rattle.sk_io.specs.declared.line.LineStop.{LineStop}
use Rattle.sk_io.specs.declared.line.LineStop.TheVariants.{Failed, TooMuch}
use Rattle.sk_io.specs.declared.line.Line.{Line}
use Rattle.sk_io.specs.declared.line.Line.TheVariants.{Whole, TooLong}
use Rattle.sk_io.specs.Causes.{Rose}
use Rattle.sk_io.specs.LineText.{most_line, NoLineEnd, IsLine}
use Rattle.sk_io.specs.Reading.{Reader, reach, StreamIs, Outcome, ended, whole, too_long, stopped}

-- As many bytes were taken off the room as off what the source had left.
abbrev pub Charged : Reader → Option (List ℕ) → Reader → Option (List ℕ) → Type 0
Charged old left new left' =
    (rest rest' : List ℕ) → left ≡ Some rest → left' ≡ Some rest' → new.room + length rest ≡ old.room + length rest'

-- No line is left, and the source's end was reached.
pub record Ends (old : Reader) (left : Option (List ℕ)) (new : Reader) (left' : Option (List ℕ)) : Type 0 where
  pub goes : new.stopped ≡ None
  pub ended : new.ended ≡ true
  pub more_room : 0 < new.room
  pub reaches : reach new ≤ reach old
  pub empty : (s : List ℕ) → StreamIs old left s → (s ≡ []) × StreamIs new left' []
  pub charged : Charged old left new left'

-- `line` is the first line of s, and the stream goes on behind it; one without an end is given only where the source's end was reached
pub record LineOf (line : List ℕ) (new : Reader) (left' : Option (List ℕ)) (s : List ℕ) : Type 0 where
  pub after : List ℕ
  pub is_line : IsLine line s after
  pub goes_on : StreamIs new left' after
  pub last : s ≡ line → new.ended ≡ true

-- The first line was given.
pub record Gives (old : Reader) (left : Option (List ℕ)) (new : Reader) (left' : Option (List ℕ)) (line : List ℕ) : Type 0 where
  pub goes : new.stopped ≡ None
  pub short : length line ≤ most_line
  pub falls : reach new < reach old
  pub first : (s : List ℕ) → StreamIs old left s → LineOf line new left' s
  pub charged : Charged old left new left'

-- The first line of s is longer than a line may be, and the stream goes on behind it.
pub record LongLineOf (new : Reader) (left' : Option (List ℕ)) (s : List ℕ) : Type 0 where
  pub line : List ℕ
  pub long : most_line < length line
  pub first : LineOf line new left' s

-- The first line, which is too long, was passed over.
pub record PassesOver (old : Reader) (left : Option (List ℕ)) (new : Reader) (left' : Option (List ℕ)) : Type 0 where
  pub goes : new.stopped ≡ None
  pub falls : reach new < reach old
  pub first : (s : List ℕ) → StreamIs old left s → LongLineOf new left' s
  pub charged : Charged old left new left'

-- s begins with bytes of a line that was not answered, and the source has the others left
pub record OpenLineOf (left' : Option (List ℕ)) (s : List ℕ) : Type 0 where
  pub open_line : List ℕ
  pub rest : List ℕ
  pub no_end : NoLineEnd open_line
  pub is : s ≡ open_line ++ rest
  pub told : left' ≡ Some rest

-- The reader stopped, in the middle of a line or before one.
pub record Stops (old : Reader) (left : Option (List ℕ)) (new : Reader) (left' : Option (List ℕ)) (why : LineStop) : Type 0 where
  pub stopped_for : new.stopped ≡ Some why
  pub full : why ≡ TooMuch → new.room ≡ 0
  pub reaches : reach new ≤ reach old
  pub open_line : (s : List ℕ) → StreamIs old left s → OpenLineOf left' s
  pub charged : Charged old left new left'

-- The stop that was answered before is answered again, and nothing is touched.
pub record StopsAgain (old : Reader) (left : Option (List ℕ)) (new : Reader) (left' : Option (List ℕ)) (answer : Outcome) (why : LineStop) : Type 0 where
  pub again : answer ≡ stopped why
  pub same : new ≡ old
  pub untouched : left' ≡ left

-- What a reader that has not stopped did, by its answer.
abbrev pub ReadsOn : Reader → Option (List ℕ) → Reader → Option (List ℕ) → Outcome → Type 0
ReadsOn old left new left' ended = Ends old left new left'
ReadsOn old left new left' (whole line) = Gives old left new left' line
ReadsOn old left new left' too_long = PassesOver old left new left'
ReadsOn old left new left' (stopped why) = Stops old left new left' why

-- What a call of `next` did, by its answer; a reader that reached the end stays there.
pub record Reads (old : Reader) (left : Option (List ℕ)) (new : Reader) (left' : Option (List ℕ)) (answer : Outcome) : Type 0 where
  pub again : (why : LineStop) → old.stopped ≡ Some why → StopsAgain old left new left' answer why
  pub goes_on : old.stopped ≡ None → ReadsOn old left new left' answer
  pub stays : old.ended ≡ true → new.ended ≡ true

-- The count of faults does not fall, and the stop `Failed` comes only where it rose, or again.
pub record StopHasCause {T : Type 0} (stop : Option LineStop) (before now : ℕ) (result : Result T LineStop) : Type 0 where
  pub later : before ≤ now
  pub failed : IsErrOf result Failed → Rose before now ⊎ (stop ≡ Some Failed)

-- A whole line is at most most_line bytes.
abbrev pub IsShort : Option Line → Type 0
IsShort None = Unit {0}
IsShort (Some (Whole line)) = length line.now ≤ most_line
IsShort (Some TooLong) = Unit {0}

-- A line was given.
abbrev pub IsGiven : Result (Option Line) LineStop → Type 0
IsGiven (Ok None) = ⊥
IsGiven (Ok (Some line)) = Unit {0}
IsGiven (Err why) = ⊥
