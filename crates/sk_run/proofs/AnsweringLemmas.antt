-- How one answer joins what waits, or does not.
use Rattle.std.proofs.Common.{◌≡◌, ◌≤◌, ◌+◌, ℕ, Bool, true, false, ◌⊎◌, inl, inr, List, [], ◌++◌, Result, Ok, Err, IfOk, IfErr, refl, ◌∙◌, subst, arith}
use Rattle.sk_io.specs.Causes.{Rose}
use Rattle.sk_io.specs.Fronts.{AppendsPrefix}
use Rattle.sk_run.specs.declared.response.Response.{Response}
use Rattle.sk_run.specs.declared.response.Printing.{Printing}
use Rattle.sk_run.specs.Responses.{text_under, is_refusal, reads_of}
use Rattle.sk_run.specs.declared.status.Status.{Status}
use Rattle.sk_run.specs.Outsides.{Output}
use Rattle.sk_run.specs.Waiting.{MovesOut, PutsLast, Joins, LacksMemory, FailsBefore, FailsWithin, FailsToPut, JoinsNot}
use Rattle.sk_run.proofs.WaitingLemmas.{moves_on, moves_text, moves_last, moves_prefix, prefix_longer}
use Rattle.sk_run.proofs.RunLemmas.{rose_since}

-- What holds of an `Ok` in other words, and of an `Err`.
pub ok_as : {T E : Type 0} (P Q : T → Type 0) (r : Result T E) → ((x : T) → P x → Q x) → IfOk r P → IfOk r Q
ok_as P Q (Ok x) f h = f x h
ok_as P Q (Err e) f h = tt

pub err_as : {T E : Type 0} (P Q : E → Type 0) (r : Result T E) → ((e : E) → P e → Q e) → IfErr r P → IfErr r Q
err_as P Q (Ok x) f h = tt
err_as P Q (Err e) f h = f e h

fault≢memory : Status.WriteFault ≡ Status.Memory → ⊥
fault≢memory e = cc

-- Where answers are printed so.
module _ (printing : Printing) where
  -- Which answer it is may be said in other words.
  pub joins_as : (Old New : Response → Type 0) (waiting waiting' : List ℕ) (refused : Bool) (before after : Output) → ((answer : Response) → Old answer → New answer)
      → Joins printing Old waiting waiting' refused before after → Joins printing New waiting waiting' refused before after
  joins_as Old New waiting waiting' refused before after f j = record { answer = j.answer; allowed = f j.answer j.allowed; refusal = j.refusal; moves = j.moves; paid = j.paid; finishes = j.finishes; later = j.later }

  which_as : (Old New : Response → Type 0) (waiting : List ℕ) (before after : Output) → ((answer : Response) → Old answer → New answer)
      → FailsBefore printing Old waiting before after ⊎ FailsWithin printing Old waiting before after → FailsBefore printing New waiting before after ⊎ FailsWithin printing New waiting before after
  which_as Old New waiting before after f (inl early) = inl (record { put = early.put; same = early.same })
  which_as Old New waiting before after f (inr late) = inr (record { answer = late.answer; allowed = f late.answer late.allowed; put = late.put; paid = late.paid })

  pub joins_not_as : (Old New : Response → Type 0) (waiting : List ℕ) (status : Status) (before after : Output) → ((answer : Response) → Old answer → New answer)
      → JoinsNot printing Old waiting status before after → JoinsNot printing New waiting status before after
  joins_not_as Old New waiting Status.Done before after f e = absurd e
  joins_not_as Old New waiting Status.Refused before after f e = absurd e
  joins_not_as Old New waiting Status.Usage before after f e = absurd e
  joins_not_as Old New waiting Status.ReadFault before after f e = absurd e
  joins_not_as Old New waiting Status.WriteFault before after f e = record { which = which_as Old New waiting before after f e.which; finishes = e.finishes; rose = e.rose }
  joins_not_as Old New waiting Status.Memory before after f e = record { put = e.put; later = e.later; finishes = e.finishes }
  joins_not_as Old New waiting Status.TooMuch before after f e = absurd e

  -- For an answer of which this holds.
  module _ (Allowed : Response → Type 0) (waiting : List ℕ) where
    -- Memory ran out before it was known what is asked for.
    pub lacks_request : (status : Status) (before after : Output) → PutsLast waiting status before after → after.steps ≡ before.steps → JoinsNot printing Allowed waiting status before after
    lacks_request Status.Done before after e same = absurd e
    lacks_request Status.Refused before after e same = absurd e
    lacks_request Status.Usage before after e same = absurd e
    lacks_request Status.ReadFault before after e same = absurd e
    lacks_request Status.WriteFault before after e same = record { which = inl (record { put = e.0; same = same }); finishes = e.1; rose = e.2 }
    lacks_request Status.Memory before after e same = record { put = e.0; later = omega (arith, same); finishes = e.1 }
    lacks_request Status.TooMuch before after e same = absurd e

    -- The sink failed when what waits was put before a find.
    pub fails_first : (before after : Output) → AppendsPrefix before.sink.held after.sink.held waiting → after.steps ≡ before.steps → after.sink.finishes ≡ before.sink.finishes → Rose before.sink.faults after.sink.faults
        → FailsToPut printing Allowed waiting before after
    fails_first before after prefix same finishes rose = record { which = inl (record { put = prefix; same = same }); finishes = finishes; rose = rose }

    -- Of what waits a front was put, or none.
    module _ (waiting' : List ℕ) (before middle : Output) (moves : MovesOut waiting waiting' before.sink.held middle.sink.held) (finishes : middle.sink.finishes ≡ before.sink.finishes) (since : before.sink.faults ≤ middle.sink.faults) where
      before_it : (after : Output) → PutsLast waiting' Status.WriteFault middle after → after.steps ≡ before.steps → FailsToPut printing Allowed waiting before after
      before_it after e same = record {
        which = inl (record { put = moves_prefix waiting waiting' before.sink.held middle.sink.held after.sink.held moves e.0; same = same });
        finishes = e.1 ∙ finishes;
        rose = rose_since before.sink.faults middle.sink.faults after.sink.faults since e.2;
      }

      within_it : (after : Output) (answer : Response) → Allowed answer → AppendsPrefix middle.sink.held after.sink.held (waiting' ++ text_under printing answer) → after.steps ≡ before.steps + reads_of answer → after.sink.finishes ≡ middle.sink.finishes → Rose middle.sink.faults after.sink.faults
          → FailsToPut printing Allowed waiting before after
      within_it after answer allowed prefix paid still rose = record {
        which = inr (record {
          answer = answer;
          allowed = allowed;
          put = moves_prefix (waiting ++ text_under printing answer) (waiting' ++ text_under printing answer) before.sink.held middle.sink.held after.sink.held (moves_text waiting waiting' (text_under printing answer) before.sink.held middle.sink.held moves) prefix;
          paid = paid;
        });
        finishes = still ∙ finishes;
        rose = rose_since before.sink.faults middle.sink.faults after.sink.faults since rose;
      }

      out_of_memory : (after : Output) → PutsLast waiting' Status.Memory middle after → before.steps ≤ after.steps → LacksMemory printing Allowed waiting before after
      out_of_memory after e later = record { put = moves_last waiting waiting' before.sink.held middle.sink.held after.sink.held moves e.0; later = later; finishes = e.1 ∙ finishes }

      -- Memory ran out when a request was answered. Where readings may have been counted nothing waited.
      pub lacks_answer : (reads : Bool) (status : Status) (after : Output) → (reads ≡ true → waiting' ≡ []) → (reads ≡ false → after.steps ≡ before.steps) → (waiting' ≡ [] → status ≡ Status.Memory) → before.steps ≤ after.steps
          → PutsLast waiting' status middle after → JoinsNot printing Allowed waiting status before after
      lacks_answer reads Status.Done after empty still none later e = absurd e
      lacks_answer reads Status.Refused after empty still none later e = absurd e
      lacks_answer reads Status.Usage after empty still none later e = absurd e
      lacks_answer reads Status.ReadFault after empty still none later e = absurd e
      lacks_answer true Status.WriteFault after empty still none later e = absurd (fault≢memory (none (empty refl)))
      lacks_answer false Status.WriteFault after empty still none later e = before_it after e (still refl)
      lacks_answer reads Status.Memory after empty still none later e = out_of_memory after e later
      lacks_answer reads Status.TooMuch after empty still none later e = absurd e

      -- Memory ran out for the text of the answer.
      pub lacks_text : (status : Status) (after : Output) (answer : Response) → Allowed answer → after.steps ≡ before.steps + reads_of answer → PutsLast waiting' status middle after → JoinsNot printing Allowed waiting status before after
      lacks_text Status.Done after answer allowed paid e = absurd e
      lacks_text Status.Refused after answer allowed paid e = absurd e
      lacks_text Status.Usage after answer allowed paid e = absurd e
      lacks_text Status.ReadFault after answer allowed paid e = absurd e
      lacks_text Status.WriteFault after answer allowed paid e = within_it after answer allowed (prefix_longer waiting' (text_under printing answer) middle.sink.held after.sink.held e.0) paid e.1 e.2
      lacks_text Status.Memory after answer allowed paid e = out_of_memory after e (omega (arith, paid))
      lacks_text Status.TooMuch after answer allowed paid e = absurd e

      -- The sink failed when the text joined what waits.
      pub fails_joined : (after : Output) (answer : Response) (piece : List ℕ) → Allowed answer → piece ≡ text_under printing answer → AppendsPrefix middle.sink.held after.sink.held (waiting' ++ piece) → after.steps ≡ before.steps + reads_of answer → after.sink.finishes ≡ middle.sink.finishes → Rose middle.sink.faults after.sink.faults
          → FailsToPut printing Allowed waiting before after
      fails_joined after answer piece allowed is prefix paid still rose =
          within_it after answer allowed (subst (λ (w : List ℕ). AppendsPrefix middle.sink.held after.sink.held (waiting' ++ w)) is prefix) paid still rose

      -- The text joined what waits.
      pub joined : (after : Output) (waiting'' : List ℕ) (answer : Response) (refused : Bool) (piece : List ℕ) → Allowed answer → piece ≡ text_under printing answer → refused ≡ is_refusal answer → MovesOut (waiting' ++ piece) waiting'' middle.sink.held after.sink.held → after.steps ≡ before.steps + reads_of answer
          → after.sink.finishes ≡ middle.sink.finishes → middle.sink.faults ≤ after.sink.faults → Joins printing Allowed waiting waiting'' refused before after
      joined after waiting'' answer refused piece allowed is refusal more paid still later = record {
        answer = answer;
        allowed = allowed;
        refusal = refusal;
        moves =
            moves_on (waiting ++ text_under printing answer) (waiting' ++ text_under printing answer) waiting'' before.sink.held middle.sink.held after.sink.held (moves_text waiting waiting' (text_under printing answer) before.sink.held middle.sink.held moves)
            (subst (λ (w : List ℕ). MovesOut (waiting' ++ w) waiting'' middle.sink.held after.sink.held) is more);
        paid = paid;
        finishes = still ∙ finishes;
        later = omega (arith, since, later);
      }
