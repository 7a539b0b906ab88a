-- What a run over a session does.
use Rattle.std.specs.Prelude.{◌≡◌, ◌+◌, ℕ, false, List, sum_by}
use Rattle.sk_run.specs.declared.form.Form.{Form}
use Rattle.sk_run.specs.declared.status.Status.{Status}
use Rattle.sk_run.specs.Outsides.{Outside}
use Rattle.sk_run.specs.Ran.{Ran}
use Rattle.sk_run.specs.ByForm.{printing_of, ReadsTold, WholeBy}
use Rattle.sk_run.specs.Ended.{Finishes}
use Rattle.sk_run.specs.Responses.{steps_of}
use Rattle.sk_engine.specs.Sessions.{session_conduct}

-- The main theorem, where each command may be answered as edits of documents, finds, facets, shows and searches in flight are: what a run did that was given these words.
abbrev pub SessionRan : List (List ℕ) → Status → Outside → Outside → Type 0
SessionRan words status before after = Ran session_conduct words status before after

-- Where a run of this form came to its end, and the sources that it reads tell their bytes, the counter rose by the readings that its answers tell of: each reading is told, and told once.
abbrev pub ReadingsTold : Form → Status → Outside → Outside → Type 0
ReadingsTold form status before after =
    ReadsTold form before
    → (end : Finishes (printing_of form) (WholeBy session_conduct form before after) false status before.output after.output)
    → after.output.steps ≡ before.output.steps + sum_by steps_of end.answers
