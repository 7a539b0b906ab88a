-- The main theorem, from the end of a run by its form.
use Rattle.std.proofs.Common.{◌≡◌, ◌≤◌, ◌^◌, ℕ, List, Some, None, ◌⊎◌, inl, inr, refl, sym, ◌∙◌, subst, arith}
use Rattle.sk_io.specs.Causes.{Rose}
use Rattle.sk_run.specs.declared.form.Form.{Form}
use Rattle.sk_run.specs.declared.response.Response.{Response}
use Rattle.sk_run.specs.declared.status.Status.{Status}
use Rattle.sk_run.specs.Statuses.{IsFinished}
use Rattle.sk_run.specs.Forms.{form_of}
use Rattle.sk_run.specs.Conducts.{Conduct}
use Rattle.sk_io.specs.Seen.{Seen}
use Rattle.sk_run.specs.Outsides.{Outside}
use Rattle.sk_run.specs.Ends.{TakesAll, Stopped}
use Rattle.sk_run.specs.ByForm.{EndedBy, TakenBy, LeavesAlone}
use Rattle.sk_run.specs.Ran.{IsQuiet, AllQuiet, Ran}

some≢none : {A : Type 0} (a : A) → Some a ≡ None → ⊥
some≢none a e = cc

same_form : (a b : Form) → Some a ≡ Some b → a ≡ b
same_form a b e = cc

-- A calm source does not stop.
never_stopped : (status : Status) (before after : Seen) → IsQuiet before after → Stopped status before after → ⊥
never_stopped Status.Done before after calm stopped = stopped
never_stopped Status.Refused before after calm stopped = stopped
never_stopped Status.Usage before after calm stopped = stopped
never_stopped Status.ReadFault before after calm stopped = calm.sound stopped
never_stopped Status.WriteFault before after calm stopped = stopped
never_stopped Status.Memory before after calm stopped = stopped
never_stopped Status.TooMuch before after calm stopped =
    let all : TakesAll (2 ^ 40) calm.bytes after.left = stopped calm.bytes calm.told in
    omega (arith, all.taken, calm.short)

module _ {S : Type 0} (conduct : Conduct S) where
  -- Where both sources are calm nothing was cut short.
  never_taken : (form : Form) (status : Status) (before after : Outside) (answers : List Response) → IsQuiet before.input after.input → IsQuiet before.records after.records → TakenBy conduct form before after status answers → ⊥
  never_taken Form.Run status before after answers input records taken = never_stopped status before.input after.input input taken.0
  never_taken (Form.Search join) status before after answers input records (inl taken) = never_stopped status before.records after.records records taken.0
  never_taken (Form.Search join) status before after answers input records (inr taken) = never_stopped status before.input after.input input taken.0
  never_taken (Form.Demo documents) status before after answers input records taken = taken

  ends : (form : Form) (status : Status) (before after : Outside) → EndedBy conduct form status before after → IsQuiet before.input after.input → IsQuiet before.records after.records → (Rose before.output.sink.faults after.output.sink.faults → ⊥)
      → IsFinished status ⊎ (status ≡ Status.Memory)
  ends form Status.Done before after e input records sound = inl tt
  ends form Status.Refused before after e input records sound = inl tt
  ends form Status.Usage before after e input records sound = absurd e
  ends form Status.ReadFault before after e input records sound = absurd (never_taken form Status.ReadFault before after e.answers input records e.lines)
  ends form Status.WriteFault before after e input records sound = absurd (sound e.1)
  ends form Status.Memory before after e input records sound = inr refl
  ends form Status.TooMuch before after e input records sound = absurd (never_taken form Status.TooMuch before after e.answers input records e.lines)

  counts_on : (form : Form) (status : Status) (before after : Outside) → EndedBy conduct form status before after → before.output.steps ≤ after.output.steps
  counts_on form Status.Done before after e = omega (arith, e.steps)
  counts_on form Status.Refused before after e = omega (arith, e.steps)
  counts_on form Status.Usage before after e = absurd e
  counts_on form Status.ReadFault before after e = omega (arith, e.steps)
  counts_on form Status.WriteFault before after e = omega (arith, e.0.steps)
  counts_on form Status.Memory before after e = omega (arith, e.steps)
  counts_on form Status.TooMuch before after e = omega (arith, e.steps)

  no_usage : (form : Form) (status : Status) (before after : Outside) → EndedBy conduct form status before after → status ≡ Status.Usage → ⊥
  no_usage form Status.Done before after e h = cc
  no_usage form Status.Refused before after e h = cc
  no_usage form Status.Usage before after e h = e
  no_usage form Status.ReadFault before after e h = cc
  no_usage form Status.WriteFault before after e h = cc
  no_usage form Status.Memory before after e h = cc
  no_usage form Status.TooMuch before after e h = cc

  -- The end of a run under the words of a form says it all.
  pub used : (words : List (List ℕ)) (form : Form) (status : Status) (before after : Outside) → form_of words ≡ Some form → EndedBy conduct form status before after → LeavesAlone form before after
      → Ran conduct words status before after
  used words form status before after is e keeps = record {
    usage = (λ h. absurd (no_usage form status before after e h), λ h. absurd (some≢none form (sym is ∙ h)));
    untouched = λ h. absurd (no_usage form status before after e h);
    ended = λ other same. subst (λ (f : Form). EndedBy conduct f status before after) (same_form form other (sym is ∙ same)) e;
    kept = λ other same. subst (λ (f : Form). LeavesAlone f before after) (same_form form other (sym is ∙ same)) keeps;
  }

  -- Where the words are no form, nothing happens.
  pub unused : (words : List (List ℕ)) (before after : Outside) → form_of words ≡ None → after ≡ before → Ran conduct words Status.Usage before after
  unused words before after is same = record {
    usage = (λ _. is, λ _. refl);
    untouched = λ _. same;
    ended = λ form h. absurd (some≢none form (sym h ∙ is));
    kept = λ form h. absurd (some≢none form (sym h ∙ is));
  }

  -- Under the words of a form a run comes to its end, or memory ran out, where all is quiet.
  pub comes_to_its_end : (words : List (List ℕ)) (form : Form) (status : Status) (before after : Outside) → Ran conduct words status before after → form_of words ≡ Some form → AllQuiet before after
      → IsFinished status ⊎ (status ≡ Status.Memory)
  comes_to_its_end words form status before after ran is quiet = ends form status before after (ran.ended form is) quiet.input quiet.records quiet.sink

  -- The counter never falls: where nothing happened it is as before.
  pub counter_never_falls : (words : List (List ℕ)) (status : Status) (before after : Outside) → Ran conduct words status before after → before.output.steps ≤ after.output.steps
  counter_never_falls words status before after ran =
      elim (form_of words) as (λ form. form_of words ≡ form → before.output.steps ≤ after.output.steps) [
        | None ↦ λ is. let same : after.output.steps ≡ before.output.steps = (λ i. (ran.untouched (ran.usage.1 is) i).output.steps) in omega (arith, same)
        | Some form ↦ λ is. counts_on form status before after (ran.ended form is)
      ] refl
