-- The ends of a run.
use Rattle.std.specs.Prelude.{ℕ, List, Option, Some, None, codes}
use Rattle.sk_run.specs.declared.status.Status.{Status}
use Rattle.sk_run.specs.declared.status.Status.TheVariants.{Done, Refused, Usage, ReadFault, WriteFault, Memory, TooMuch}

-- The number that the process ends with.
abbrev pub code_of : Status → ℕ
code_of Done = 0
code_of Refused = 1
code_of Usage = 2
code_of ReadFault = 3
code_of WriteFault = 4
code_of Memory = 5
code_of TooMuch = 6

-- What is said of a run that did not come to its end, where this is said of words that are no form.
abbrev pub message_of : List ℕ → Status → Option (List ℕ)
message_of usage Done = None
message_of usage Refused = None
message_of usage Usage = Some usage
message_of usage ReadFault = Some (codes "read fault")
message_of usage WriteFault = Some (codes "write fault")
message_of usage Memory = Some (codes "no memory")
message_of usage TooMuch = Some (codes "too much input")

-- The run came to its end, and all was put.
abbrev pub IsFinished : Status → Type 0
IsFinished Done = Unit {0}
IsFinished Refused = Unit {0}
IsFinished Usage = ⊥
IsFinished ReadFault = ⊥
IsFinished WriteFault = ⊥
IsFinished Memory = ⊥
IsFinished TooMuch = ⊥
