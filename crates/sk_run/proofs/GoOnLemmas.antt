-- One part of a run behind another.
use Rattle.std.proofs.Common.{◌≡◌, ◌+◌, ℕ, Bool, ◌||◌, if◌then◌else◌, ◌⊎◌, inl, inr, List, [], ◌∷◌, ◌++◌, Option, Some, None, sum_by, flat_map, refl, sym, ap, ◌∙◌, subst, arith, true, append_assoc, append-nil}
use Rattle.std.specs.List.{list_any}
use Rattle.std.specs.Io.KnownBytes.{Appends, Keeps}
use Rattle.std.proofs.KnownBytes.{Appends-nil, Appends-trans, Appends-kept}
use Rattle.std.proofs.lemmas.List.Sums.{sum_by-append}
use Rattle.std.proofs.lemmas.List.Folds.{list_any-append}
use Rattle.std.proofs.lemmas.Grind.{flat_map-append}
use Rattle.sk_io.specs.Causes.{counted}
use Rattle.sk_io.specs.Fronts.{AppendsPrefix}
use Rattle.sk_run.specs.declared.response.Response.{Response}
use Rattle.sk_run.specs.declared.response.Printing.{Printing}
use Rattle.sk_run.specs.Responses.{text_under, is_refusal, reads_of}
use Rattle.sk_run.specs.declared.status.Status.{Status}
use Rattle.sk_run.specs.Outsides.{Output}
use Rattle.sk_run.specs.Ends.{PutsFront}
use Rattle.sk_run.specs.Ended.{Finishes, CutsShort, BreaksOff, RunsOut, Continues, Ended, finished_status}
use Rattle.sk_run.specs.Closing.{ClosedBy, ClosedOrNot}
use Rattle.sk_run.proofs.RunLemmas.{or-false, or-assoc, rose_since}
use Rattle.sk_run.proofs.WaitingLemmas.{puts_front}

module _ (printing : Printing) where
  -- What is said of the answers may be said in other words.
  pub ended_as : (OldWhole Whole OldFirst First : List Response → Type 0) (OldTaken Taken : Status → List Response → Type 0) (refused : Bool) (status : Status) (before after : Output)
      → ((a : List Response) → OldWhole a → Whole a) → ((st : Status) (a : List Response) → OldTaken st a → Taken st a) → ((a : List Response) → OldFirst a → First a)
      → Ended printing OldWhole OldTaken OldFirst refused status before after → Ended printing Whole Taken First refused status before after
  ended_as OldWhole Whole OldFirst First OldTaken Taken refused Status.Done before after w k f e = record { answers = e.answers; put = e.put; status_is = e.status_is; steps = e.steps; settled = e.settled; finishes = e.finishes; lines = w e.answers e.lines }
  ended_as OldWhole Whole OldFirst First OldTaken Taken refused Status.Refused before after w k f e = record { answers = e.answers; put = e.put; status_is = e.status_is; steps = e.steps; settled = e.settled; finishes = e.finishes; lines = w e.answers e.lines }
  ended_as OldWhole Whole OldFirst First OldTaken Taken refused Status.Usage before after w k f e = absurd e
  ended_as OldWhole Whole OldFirst First OldTaken Taken refused Status.ReadFault before after w k f e = record { answers = e.answers; put = e.put; steps = e.steps; finishes = e.finishes; lines = k Status.ReadFault e.answers e.lines }
  ended_as OldWhole Whole OldFirst First OldTaken Taken refused Status.WriteFault before after w k f e = (record { answers = e.0.answers; put = e.0.put; steps = e.0.steps; finishes = e.0.finishes; lines = f e.0.answers e.0.lines }, e.1)
  ended_as OldWhole Whole OldFirst First OldTaken Taken refused Status.Memory before after w k f e = record { answers = e.answers; put = e.put; steps = e.steps; finishes = e.finishes; lines = f e.answers e.lines }
  ended_as OldWhole Whole OldFirst First OldTaken Taken refused Status.TooMuch before after w k f e = record { answers = e.answers; put = e.put; steps = e.steps; finishes = e.finishes; lines = k Status.TooMuch e.answers e.lines }

  -- The texts of both parts were put.
  both_put : (a b : List Response) (h0 h1 h2 : Option (List ℕ)) → Appends h0 h1 (flat_map (text_under printing) a) → Appends h1 h2 (flat_map (text_under printing) b) → Appends h0 h2 (flat_map (text_under printing) (a ++ b))
  both_put a b h0 h1 h2 p q = subst (λ w. Appends h0 h2 w) (sym (flat_map-append (text_under printing) a b)) (Appends-trans h0 h1 h2 (flat_map (text_under printing) a) (flat_map (text_under printing) b) p q)

  both_front : (a b : List Response) (h0 h1 h2 : Option (List ℕ)) → Appends h0 h1 (flat_map (text_under printing) a) → PutsFront (text_under printing) b h1 h2 → PutsFront (text_under printing) (a ++ b) h0 h2
  both_front a b h0 h1 h2 p f = record {
    shown = flat_map (text_under printing) a ++ f.shown;
    hidden = f.hidden;
    parts = flat_map-append (text_under printing) a b ∙ ap (λ (w : List ℕ). flat_map (text_under printing) a ++ w) f.parts ∙ sym (append_assoc (flat_map (text_under printing) a) f.shown f.hidden);
    put = Appends-trans h0 h1 h2 (flat_map (text_under printing) a) f.shown p f.put;
  }

  both_paid : (a b : List Response) (n0 n1 n2 : ℕ) → n1 ≡ n0 + sum_by reads_of a → n2 ≡ n1 + sum_by reads_of b → n2 ≡ n0 + sum_by reads_of (a ++ b)
  both_paid a b n0 n1 n2 p q = omega (arith, p, q, sum_by-append reads_of a b)

  both_refuse : (a b : List Response) (r0 r1 : Bool) → r1 ≡ (r0 || list_any is_refusal a) → finished_status r1 b ≡ finished_status r0 (a ++ b)
  both_refuse a b r0 r1 e =
      ap (λ r. if r then Status.Refused else Status.Done)
      (ap (λ r. r || list_any is_refusal b) e ∙ or-assoc r0 (list_any is_refusal a) (list_any is_refusal b) ∙ ap (λ r. r0 || r) (sym (list_any-append is_refusal a b)))

  -- For what is said of the first part, of the second and of both.
  module _ (Through WholeBehind Whole FirstBehind First : List Response → Type 0) (TakenBehind Taken : Status → List Response → Type 0)
      (w : (a b : List Response) → Through a → WholeBehind b → Whole (a ++ b)) (k : (st : Status) (a b : List Response) → Through a → TakenBehind st b → Taken st (a ++ b)) (f : (a b : List Response) → Through a → FirstBehind b → First (a ++ b))
      (r0 r1 : Bool) (before middle after : Output) (c : Continues printing Through r0 r1 before middle) where
    finishes_after : (status : Status) → Finishes printing WholeBehind r1 status middle after → Finishes printing Whole r0 status before after
    finishes_after status e = record {
      answers = c.answers ++ e.answers;
      put = both_put c.answers e.answers before.sink.held middle.sink.held after.sink.held c.put e.put;
      status_is = e.status_is ∙ both_refuse c.answers e.answers r0 r1 c.refusals;
      steps = both_paid c.answers e.answers before.steps middle.steps after.steps c.steps e.steps;
      settled = e.settled;
      finishes = e.finishes ∙ ap counted c.finishes;
      lines = w c.answers e.answers c.lines e.lines;
    }

    cuts_after : (status : Status) → CutsShort printing (TakenBehind status) middle after → CutsShort printing (Taken status) before after
    cuts_after status e = record {
      answers = c.answers ++ e.answers;
      put = both_put c.answers e.answers before.sink.held middle.sink.held after.sink.held c.put e.put;
      steps = both_paid c.answers e.answers before.steps middle.steps after.steps c.steps e.steps;
      finishes = e.finishes ∙ c.finishes;
      lines = k status c.answers e.answers c.lines e.lines;
    }

    breaks_after : BreaksOff printing FirstBehind middle after → BreaksOff printing First before after
    breaks_after e = record {
      answers = c.answers ++ e.answers;
      put = both_front c.answers e.answers before.sink.held middle.sink.held after.sink.held c.put e.put;
      steps = both_paid c.answers e.answers before.steps middle.steps after.steps c.steps e.steps;
      finishes = elim e.finishes as (λ _. (after.sink.finishes ≡ before.sink.finishes) ⊎ (after.sink.finishes ≡ counted before.sink.finishes)) [ inl same ↦ inl (same ∙ c.finishes) | inr more ↦ inr (more ∙ ap counted c.finishes) ];
      lines = f c.answers e.answers c.lines e.lines;
    }

    runs_out_after : RunsOut printing FirstBehind middle after → RunsOut printing First before after
    runs_out_after e = record {
      answers = c.answers ++ e.answers;
      put = both_put c.answers e.answers before.sink.held middle.sink.held after.sink.held c.put e.put;
      steps = omega (arith, c.steps, e.steps, sum_by-append reads_of c.answers e.answers);
      finishes = e.finishes ∙ c.finishes;
      lines = f c.answers e.answers c.lines e.lines;
    }

    -- The second part ended, and so did both.
    pub ended_after : (status : Status) → Ended printing WholeBehind TakenBehind FirstBehind r1 status middle after → Ended printing Whole Taken First r0 status before after
    ended_after Status.Done e = finishes_after Status.Done e
    ended_after Status.Refused e = finishes_after Status.Refused e
    ended_after Status.Usage e = absurd e
    ended_after Status.ReadFault e = cuts_after Status.ReadFault e
    ended_after Status.WriteFault e = (breaks_after e.0, rose_since before.sink.faults middle.sink.faults after.sink.faults c.later e.1)
    ended_after Status.Memory e = runs_out_after e
    ended_after Status.TooMuch e = cuts_after Status.TooMuch e

-- A piece that was put whole and then kept was put, if perhaps in part.
pub kept_prefix : (a b c : Option (List ℕ)) (piece : List ℕ) → Appends a b piece → Keeps b c → AppendsPrefix a c piece
kept_prefix None b c piece p k = tt
kept_prefix (Some held) None c piece p k = absurd p
kept_prefix (Some held) (Some more) None piece p k = absurd k
kept_prefix (Some held) (Some more) (Some last) piece p k = record { shown = piece; rest = []; whole = sym (append-nil piece); now_held = ap Some (k ∙ p) }

-- What closes a run, and the end of it.
module _ {Whole S : Type 0} (printing : Printing) (Stands : Whole → S → Type 0) (Closes : S → Response → Type 0) (now : Whole) (refused : Bool) where
  alone_put : (answer : Response) (piece : List ℕ) (h0 h1 : Option (List ℕ)) → piece ≡ text_under printing answer → Appends h0 h1 piece → Appends h0 h1 (flat_map (text_under printing) (answer ∷ []))
  alone_put answer piece h0 h1 is put = subst (λ w. Appends h0 h1 w) (is ∙ sym (append-nil (text_under printing answer))) put

  -- It was not made.
  pub closes_without : (before after : Output) → Keeps before.sink.held after.sink.held → after.sink.finishes ≡ before.sink.finishes → after.steps ≡ before.steps
      → RunsOut printing (ClosedOrNot Stands Closes now) before after
  closes_without before after held same steps = record {
    answers = [];
    put = Appends-kept before.sink.held before.sink.held after.sink.held [] (Appends-nil before.sink.held) held;
    steps = omega (arith, steps);
    finishes = same;
    lines = inl refl;
  }

  -- It was put whole, and the sink settled.
  pub closes_whole : (answer : Response) (piece : List ℕ) (status : Status) (before after : Output) (held : Option (List ℕ)) → ((s : S) → Stands now s → Closes s answer) → reads_of answer ≡ 0 → piece ≡ text_under printing answer
      → Appends before.sink.held held piece → Keeps held after.sink.held → status ≡ (if refused || is_refusal answer then Status.Refused else Status.Done) → after.sink.settled ≡ true → after.sink.finishes ≡ counted before.sink.finishes
      → after.steps ≡ before.steps → Finishes printing (ClosedBy Stands Closes now) refused status before after
  closes_whole answer piece status before after held closes free is put keeps status_is settled finishes steps = record {
    answers = answer ∷ [];
    put = alone_put answer piece before.sink.held after.sink.held is (Appends-kept before.sink.held held after.sink.held piece put keeps);
    status_is = status_is ∙ ap (λ b. if refused || b then Status.Refused else Status.Done) (sym (or-false (is_refusal answer)));
    steps = omega (arith, free, steps);
    settled = settled;
    finishes = finishes;
    lines = record { closing = answer; alone = refl; closes = closes };
  }

  -- The sink failed.
  pub closes_in_part : (answer : Response) (piece : List ℕ) (before after : Output) → ((s : S) → Stands now s → Closes s answer) → reads_of answer ≡ 0 → piece ≡ text_under printing answer → AppendsPrefix before.sink.held after.sink.held piece
      → (after.sink.finishes ≡ before.sink.finishes) ⊎ (after.sink.finishes ≡ counted before.sink.finishes) → after.steps ≡ before.steps → BreaksOff printing (ClosedOrNot Stands Closes now) before after
  closes_in_part answer piece before after closes free is put finishes steps = record {
    answers = answer ∷ [];
    put = puts_front (text_under printing) (answer ∷ []) before.sink.held after.sink.held (subst (λ w. AppendsPrefix before.sink.held after.sink.held w) (is ∙ sym (append-nil (text_under printing answer))) put);
    steps = omega (arith, free, steps);
    finishes = finishes;
    lines = inr (record { closing = answer; alone = refl; closes = closes });
  }
