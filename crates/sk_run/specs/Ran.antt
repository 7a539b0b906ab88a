-- The main theorem: what a run does over a store, for all words, every two sources and every sink.
use Rattle.std.specs.Prelude.{◌≡◌, ℕ, ◌<◌, ◌^◌, ◌↔◌, List, length, Some, None}
use Rattle.sk_io.specs.Causes.{Rose}
use Rattle.sk_run.specs.declared.form.Form.{Form}
use Rattle.sk_run.specs.declared.status.Status.{Status}
use Rattle.sk_run.specs.Forms.{form_of}
use Rattle.sk_io.specs.Seen.{Seen}
use Rattle.sk_run.specs.Outsides.{Outside}
use Rattle.sk_run.specs.Conducts.{Conduct}
use Rattle.sk_run.specs.ByForm.{EndedBy, LeavesAlone}

-- The source tells its bytes, which are fewer than a run takes of one source, and its count of faults did not rise. (One that stands at its greatest number is taken to have risen.)
pub record IsQuiet (before after : Seen) : Type 0 where
  pub bytes : List ℕ
  pub told : before.left ≡ Some bytes
  pub short : length bytes < 2 ^ 40
  pub sound : Rose before.faults after.faults → ⊥

-- Both sources are quiet, and the sink did not fail.
pub record AllQuiet (before after : Outside) : Type 0 where
  pub input : IsQuiet before.input after.input
  pub records : IsQuiet before.records after.records
  pub sink : Rose before.output.sink.faults after.output.sink.faults → ⊥

-- What a run does that was given these words, over a store of this conduct. Two laws follow: its counter never falls (`counter_never_falls`), and where all is quiet it comes to its end, or memory ran out (`comes_to_its_end`).
pub record Ran {S : Type 0} (conduct : Conduct S) (words : List (List ℕ)) (status : Status) (before after : Outside) : Type 0 where
  -- The status of usage comes exactly where the words are no form, and then nothing happened.
  pub usage : (status ≡ Status.Usage) ↔ (form_of words ≡ None)
  pub untouched : status ≡ Status.Usage → after ≡ before
  -- Under the words of a form: what the status says, and what was put, read and counted by then.
  pub ended : (form : Form) → form_of words ≡ Some form → EndedBy conduct form status before after
  -- What the form does not touch is as before.
  pub kept : (form : Form) → form_of words ≡ Some form → LeavesAlone form before after
