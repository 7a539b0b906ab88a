-- What is said of a run at its end, behind its answers.
use Rattle.std.specs.Prelude.{◌≡◌, ℕ, true, List, [], ◌∷◌, ◌++◌, Option, Some, None, ◌⊎◌}
use Rattle.std.specs.Io.KnownBytes.{Appends}
use Rattle.sk_io.specs.Causes.{Rose}
use Rattle.sk_io.specs.Fronts.{AppendsPrefix}
use Rattle.sk_io.specs.Seen.{Taken}
use Rattle.sk_run.specs.declared.status.Status.{Status}
use Rattle.sk_run.specs.Statuses.{message_of}

-- A message as a line, and nothing where there is none.
abbrev pub line_of : Option (List ℕ) → List ℕ
line_of None = []
line_of (Some message) = message ++ 10 ∷ []

-- What a sink for messages was told of a status: its message as a line, or a front of it where the sink failed.
abbrev pub Says : List ℕ → Status → Taken → Taken → Type 0
Says usage status before after =
    Appends before.held after.held (line_of (message_of usage status)) ⊎ (AppendsPrefix before.held after.held (line_of (message_of usage status)) × Rose before.faults after.faults)

-- Behind a message all that the sink took is where it belongs, unless it failed; where there is none it is not touched.
abbrev pub Settles : Option (List ℕ) → Taken → Taken → Type 0
Settles None before after = after ≡ before
Settles (Some message) before after = (after.settled ≡ true) ⊎ Rose before.faults after.faults
