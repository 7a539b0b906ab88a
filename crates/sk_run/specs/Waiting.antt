-- What waits to be put, and how one answer more joins it.
use Rattle.std.specs.Prelude.{◌≡◌, ℕ, ◌+◌, ◌≤◌, Bool, List, ◌++◌, Option, ◌⊎◌}
use Rattle.std.specs.Io.KnownBytes.{Appends}
use Rattle.sk_io.specs.Causes.{Rose}
use Rattle.sk_io.specs.Fronts.{AppendsPrefix}
use Rattle.sk_run.specs.declared.status.Status.{Status}
use Rattle.sk_run.specs.declared.status.Status.TheVariants.{Done, Refused, Usage, ReadFault, WriteFault, Memory, TooMuch}
use Rattle.sk_run.specs.declared.response.Response.{Response}
use Rattle.sk_run.specs.declared.response.Printing.{Printing}
use Rattle.sk_run.specs.Responses.{text_under, is_refusal, reads_of}
use Rattle.sk_run.specs.Outsides.{Output}

-- A front of these bytes was put, and the others wait.
pub record MovesOut (bytes waiting : List ℕ) (held held_after : Option (List ℕ)) : Type 0 where
  pub front : List ℕ
  pub parts : bytes ≡ front ++ waiting
  pub put : Appends held held_after front

-- What waited was put, since memory ran out, if the sink did not fail.
abbrev pub PutsLast : List ℕ → Status → Output → Output → Type 0
PutsLast waiting Done before after = ⊥
PutsLast waiting Refused before after = ⊥
PutsLast waiting Usage before after = ⊥
PutsLast waiting ReadFault before after = ⊥
PutsLast waiting WriteFault before after = AppendsPrefix before.sink.held after.sink.held waiting × (after.sink.finishes ≡ before.sink.finishes) × Rose before.sink.faults after.sink.faults
PutsLast waiting Memory before after = Appends before.sink.held after.sink.held waiting × (after.sink.finishes ≡ before.sink.finishes)
PutsLast waiting TooMuch before after = ⊥

-- Where answers are printed so, and one of them is such an answer.
module _ (printing : Printing) (Allowed : Response → Type 0) (waiting : List ℕ) where
  -- It joined what waited, and was counted.
  pub record Joins (waiting_after : List ℕ) (refused : Bool) (before after : Output) : Type 0 where
    pub answer : Response
    pub allowed : Allowed answer
    pub refusal : refused ≡ is_refusal answer
    pub moves : MovesOut (waiting ++ text_under printing answer) waiting_after before.sink.held after.sink.held
    pub paid : after.steps ≡ before.steps + reads_of answer
    pub finishes : after.sink.finishes ≡ before.sink.finishes
    pub later : before.sink.faults ≤ after.sink.faults

  -- Memory ran out for it. What waited was put.
  pub record LacksMemory (before after : Output) : Type 0 where
    pub put : Appends before.sink.held after.sink.held waiting
    pub later : before.steps ≤ after.steps
    pub finishes : after.sink.finishes ≡ before.sink.finishes

  -- The sink failed before it was made, within what waited.
  pub record FailsBefore (before after : Output) : Type 0 where
    pub put : AppendsPrefix before.sink.held after.sink.held waiting
    pub same : after.steps ≡ before.steps

  -- The sink failed when it was made and counted, within what waited or within it.
  pub record FailsWithin (before after : Output) : Type 0 where
    pub answer : Response
    pub allowed : Allowed answer
    pub put : AppendsPrefix before.sink.held after.sink.held (waiting ++ text_under printing answer)
    pub paid : after.steps ≡ before.steps + reads_of answer

  pub record FailsToPut (before after : Output) : Type 0 where
    pub which : FailsBefore before after ⊎ FailsWithin before after
    pub finishes : after.sink.finishes ≡ before.sink.finishes
    pub rose : Rose before.sink.faults after.sink.faults

  -- It did not join what waited, for want of memory or since the sink failed.
  abbrev pub JoinsNot : Status → Output → Output → Type 0
  JoinsNot Done before after = ⊥
  JoinsNot Refused before after = ⊥
  JoinsNot Usage before after = ⊥
  JoinsNot ReadFault before after = ⊥
  JoinsNot WriteFault before after = FailsToPut before after
  JoinsNot Memory before after = LacksMemory before after
  JoinsNot TooMuch before after = ⊥
