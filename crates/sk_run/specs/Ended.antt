-- The ends of a run by status, whatever it answered. What the answers are of is said by relations: of all that there was, of what was taken of a source that stopped, and of what came first.
use Rattle.std.specs.Prelude.{◌≡◌, ◌+◌, ◌≤◌, Bool, true, ◌||◌, List, ◌⊎◌, sum_by, flat_map, if◌then◌else◌}
use Rattle.std.specs.List.{list_any}
use Rattle.std.specs.Io.KnownBytes.{Appends}
use Rattle.sk_io.specs.Causes.{Rose, counted}
use Rattle.sk_run.specs.declared.status.Status.{Status}
use Rattle.sk_run.specs.declared.status.Status.TheVariants.{Done, Refused, Usage, ReadFault, WriteFault, Memory, TooMuch}
use Rattle.sk_run.specs.declared.response.Response.{Response}
use Rattle.sk_run.specs.declared.response.Printing.{Printing}
use Rattle.sk_run.specs.Responses.{text_under, is_refusal, reads_of}
use Rattle.sk_run.specs.Outsides.{Output}
use Rattle.sk_run.specs.Ends.{PutsFront}

-- The status of a run that was finished: whether a line was refused before, or one of the answers refuses its line.
abbrev pub finished_status : Bool → List Response → Status
finished_status refused answers = if refused || list_any is_refusal answers then Refused else Done

-- Where answers are printed so.
module _ (printing : Printing) where
  -- All was answered, and the sink was to finish once, and did. Of any source: the sink took the texts of these answers and nothing else, the status tells whether one refuses its line, and the counter rose by the readings that they tell of.
  pub record Finishes (Whole : List Response → Type 0) (refused : Bool) (status : Status) (before after : Output) : Type 0 where
    pub answers : List Response
    pub put : Appends before.sink.held after.sink.held (flat_map (text_under printing) answers)
    pub status_is : status ≡ finished_status refused answers
    pub steps : after.steps ≡ before.steps + sum_by reads_of answers
    pub settled : after.sink.settled ≡ true
    pub finishes : after.sink.finishes ≡ counted before.sink.finishes
    pub lines : Whole answers

  -- A source stopped, for a fault or because too many bytes were taken. The sink was not to finish.
  pub record CutsShort (Taken : List Response → Type 0) (before after : Output) : Type 0 where
    pub answers : List Response
    pub put : Appends before.sink.held after.sink.held (flat_map (text_under printing) answers)
    pub steps : after.steps ≡ before.steps + sum_by reads_of answers
    pub finishes : after.sink.finishes ≡ before.sink.finishes
    pub lines : Taken answers

  -- The sink failed, when it took an answer or when it was to finish.
  pub record BreaksOff (First : List Response → Type 0) (before after : Output) : Type 0 where
    pub answers : List Response
    pub put : PutsFront (text_under printing) answers before.sink.held after.sink.held
    pub steps : after.steps ≡ before.steps + sum_by reads_of answers
    pub finishes : (after.sink.finishes ≡ before.sink.finishes) ⊎ (after.sink.finishes ≡ counted before.sink.finishes)
    pub lines : First answers

  -- Memory ran out. The sink was not to finish, and the counter rose by no less than what the answers that were put tell of.
  pub record RunsOut (First : List Response → Type 0) (before after : Output) : Type 0 where
    pub answers : List Response
    pub put : Appends before.sink.held after.sink.held (flat_map (text_under printing) answers)
    pub steps : before.steps + sum_by reads_of answers ≤ after.steps
    pub finishes : after.sink.finishes ≡ before.sink.finishes
    pub lines : First answers

  -- What each status says, where a line was refused before, or not.
  abbrev pub Ended : (List Response → Type 0) → (Status → List Response → Type 0) → (List Response → Type 0) → Bool → Status → Output → Output → Type 0
  Ended Whole Taken First refused Done before after = Finishes Whole refused Done before after
  Ended Whole Taken First refused Refused before after = Finishes Whole refused Refused before after
  Ended Whole Taken First refused Usage before after = ⊥
  Ended Whole Taken First refused ReadFault before after = CutsShort (Taken ReadFault) before after
  Ended Whole Taken First refused WriteFault before after = BreaksOff First before after × Rose before.sink.faults after.sink.faults
  Ended Whole Taken First refused Memory before after = RunsOut First before after
  Ended Whole Taken First refused TooMuch before after = CutsShort (Taken TooMuch) before after

  -- A part of a run came to its end, and the run goes on: whether a line was refused so far is known, and the sink was not to finish.
  pub record Continues (Through : List Response → Type 0) (refused refused_after : Bool) (before after : Output) : Type 0 where
    pub answers : List Response
    pub put : Appends before.sink.held after.sink.held (flat_map (text_under printing) answers)
    pub refusals : refused_after ≡ (refused || list_any is_refusal answers)
    pub steps : after.steps ≡ before.steps + sum_by reads_of answers
    pub finishes : after.sink.finishes ≡ before.sink.finishes
    pub later : before.sink.faults ≤ after.sink.faults
    pub lines : Through answers

-- Nothing is whole as yet.
abbrev pub NotWhole : List Response → Type 0
NotWhole answers = ⊥
