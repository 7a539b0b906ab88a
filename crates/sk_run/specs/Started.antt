-- What a program does from its arguments to the number that it ends with.
use Rattle.std.specs.Prelude.{◌≡◌, ℕ, List, Result, Ok, Err, map, drop, string_bytes}
use Rattle.std.proofs.Common.{String, Global, Vec}
use Rattle.sk_run.specs.declared.status.Status.{Status}
use Rattle.sk_run.specs.Statuses.{code_of, message_of}
use Rattle.sk_run.specs.Conclusions.{Says, Settles}
use Rattle.sk_io.specs.Seen.{Seen, Taken}
use Rattle.sk_run.specs.Outsides.{Outside, outside_at}

-- What a program's run sees of the outside, but for its counter, which begins at 0.
pub record Around : Type 0 where
  pub input : Seen
  pub records : Seen
  pub sink : Taken

abbrev pub around : Seen → Seen → Taken → Around
around input records sink = record { input = input; records = records; sink = sink }

-- The same, with the counter.
abbrev pub outside : Around → ℕ → Outside
outside a steps = outside_at a.input a.records a.sink steps

-- For runs that do so, by their words, their status, and the outside before and after.
module _ (Runs : List (List ℕ) → Status → Outside → Outside → Type 0) where
  -- What a run did whose arguments were read, or not: behind the first of them stand its words. Where they were not, nothing happened.
  abbrev pub RanBy : Result (Vec (String Global) Global) Status → Status → Outside → Outside → Type 0
  RanBy (Ok arguments) status before after = Runs (map string_bytes (drop 1 arguments.items)) status before after
  RanBy (Err why) status before after = (status ≡ why) × (after ≡ before)

  -- The run did so, from a counter at 0 on.
  pub record RanFrom (arguments : Result (Vec (String Global) Global) Status) (status : Status) (before after : Around) : Type 0 where
    pub steps : ℕ
    pub ran : RanBy arguments status (outside before 0) (outside after steps)

  -- The run ended with a status, whose number is the code, and whose message is what was said.
  pub record Started (usage : List ℕ) (arguments : Result (Vec (String Global) Global) Status) (code : ℕ) (before after : Around) (said_before said_after : Taken) : Type 0 where
    pub status : Status
    pub number : code ≡ code_of status
    pub says : Says usage status said_before said_after
    pub settles : Settles (message_of usage status) said_before said_after
    pub ran : RanFrom arguments status before after
