-- The ends of a run over lines, from how far it has come.
use Rattle.std.proofs.Common.{◌≡◌, ◌≤◌, ◌^◌, ℕ, Bool, ◌||◌, inl, inr, List, [], ◌∷◌, ◌++◌, Option, Some, None, Ok, flat_map, refl, sym, ap, ◌∙◌, subst, arith, true, false}
use Rattle.std.proofs.KnownBytes.{Appends-nil}
use Rattle.std.proofs.lemmas.List.Sums.{sum_by-append}
use Rattle.sk_io.specs.declared.line.Line.{Line}
use Rattle.sk_io.specs.declared.line.LineStop.{LineStop}
use Rattle.sk_io.specs.Fronts.{AppendsPrefix}
use Rattle.sk_io.specs.Reading.{Reader, line_outcome}
use Rattle.sk_io.specs.Answers.{Ends, Stops, ReadsOn}
use Rattle.sk_run.specs.declared.response.Response.{Response}
use Rattle.sk_run.specs.declared.response.Printing.{Printing}
use Rattle.sk_run.specs.Responses.{text_under, reads_of}
use Rattle.sk_run.specs.declared.status.Status.{Status}
use Rattle.sk_run.specs.Lines.{AnsweredLine, stop}
use Rattle.sk_io.specs.Seen.{Seen}
use Rattle.sk_run.specs.Outsides.{Output}
use Rattle.sk_run.specs.Ends.{Stopped}
use Rattle.sk_run.specs.Sources.{FirstOf, TakenOf, ThroughOf}
use Rattle.sk_run.specs.Ended.{CutsShort, BreaksOff, RunsOut, Continues, Ended, NotWhole}
use Rattle.sk_run.specs.Waiting.{MovesOut, Joins, LacksMemory, FailsBefore, FailsWithin, FailsToPut, JoinsNot}
use Rattle.sk_run.proofs.WaitingLemmas.{moves_on, moves_done, moves_last, moves_prefix, puts_front}
use Rattle.sk_run.proofs.RunLemmas.{IsPut, none_put, put_more, put_in_part, Reached, begins, reach_more, first_ones, lost, cut, through, rose_since}

-- For answers that have these texts, refuse their lines so and tell of so many readings, and an answerer that stands for states, where a line may be answered so.
module _ {W S : Type 0} (printing : Printing) (Stands : W → S → Type 0) (Answers : S → List ℕ → Response → S → Type 0) where
  -- The answers so far were put, but for what waits, and counted. Where the source tells its bytes, they are those of its first lines.
  pub record SoFar (first : W) (left0 held0 : Option (List ℕ)) (refused0 : Bool) (steps0 : ℕ) (reader : Reader) (left : Option (List ℕ)) (waiting : List ℕ) (held : Option (List ℕ)) (answerer : W) (refused : Bool) (steps : ℕ) : Type 0 where
    pub answers : List Response
    pub put : IsPut printing answers waiting held0 held refused0 refused steps0 steps
    pub reached : (bytes : List ℕ) → left0 ≡ Some bytes → (s : S) → Stands first s → Reached Stands Answers s bytes answers reader left answerer

  pub so_none : (first : W) (left : Option (List ℕ)) (waiting : List ℕ) (held : Option (List ℕ)) (refused : Bool) (steps : ℕ) (reader : Reader)
      → reader ≡ record { held = []; given = 0; room = 2 ^ 40; stopped = None; ended = false } → waiting ≡ [] → SoFar first left held refused steps reader left waiting held first refused steps
  so_none first left waiting held refused steps reader new none = record {
    answers = [];
    put = none_put printing waiting held refused steps none;
    reached = λ bytes told s at. begins Stands Answers s bytes reader left first new told at;
  }

  -- Of what waits a front was put.
  pub so_put : (first : W) (left0 held0 : Option (List ℕ)) (refused0 : Bool) (steps0 : ℕ) (reader : Reader) (left : Option (List ℕ)) (waiting waiting' : List ℕ) (held held' : Option (List ℕ)) (answerer : W) (refused : Bool) (steps : ℕ)
      → SoFar first left0 held0 refused0 steps0 reader left waiting held answerer refused steps → MovesOut waiting waiting' held held' → SoFar first left0 held0 refused0 steps0 reader left waiting' held' answerer refused steps
  so_put first left0 held0 refused0 steps0 reader left waiting waiting' held held' answerer refused steps so moves = record {
    answers = so.answers;
    put = record { put = moves_on (flat_map (text_under printing) so.answers) waiting waiting' held0 held held' so.put.put moves; refusals = so.put.refusals; paid = so.put.paid };
    reached = so.reached;
  }

  -- A line was read and answered, and its answer joined what waits.
  pub so_more : (first : W) (left0 held0 : Option (List ℕ)) (refused0 : Bool) (steps0 : ℕ) (reader reader' : Reader) (left left' : Option (List ℕ)) (waiting waiting' : List ℕ) (answerer answerer' : W) (refused more : Bool) (before after : Output) (l : Line)
      → SoFar first left0 held0 refused0 steps0 reader left waiting before.sink.held answerer refused before.steps → ReadsOn reader left reader' left' (line_outcome (Ok (Some l)))
      → Joins printing (λ answer. AnsweredLine Stands Answers answerer l answer answerer') waiting waiting' more before after
      → SoFar first left0 held0 refused0 steps0 reader' left' waiting' after.sink.held answerer' (refused || more) after.steps
  so_more first left0 held0 refused0 steps0 reader reader' left left' waiting waiting' answerer answerer' refused more before after l so reads joins = record {
    answers = so.answers ++ joins.answer ∷ [];
    put = put_more printing so.answers waiting waiting' held0 before.sink.held after.sink.held refused0 refused (refused || more) steps0 before.steps after.steps joins.answer so.put joins.moves (ap (λ b. refused || b) joins.refusal) joins.paid;
    reached = λ bytes told s at. reach_more Stands Answers s bytes so.answers reader reader' left left' answerer answerer' joins.answer l (so.reached bytes told s at) reads joins.allowed;
  }

  -- Nothing was read.
  pub ends_at_once : (first : W) (seen : Seen) (before after : Output) → after ≡ before → RunsOut printing (FirstOf Stands Answers first seen seen.left) before after
  ends_at_once first seen before after same =
      subst (RunsOut printing (FirstOf Stands Answers first seen seen.left) before) (sym same)
      (record {
        answers = [];
        put = Appends-nil before.sink.held;
        steps = omega arith;
        finishes = refl;
        lines = λ bytes told s at. record { last = s; pending = []; rest = bytes; runs = stop; left = told };
      })

  -- The source stopped, when nothing waited.
  pub ends_unread : (first : W) (seen seen' : Seen) (refused0 : Bool) (before after : Output) (reader reader' : Reader) (left : Option (List ℕ)) (waiting : List ℕ) (answerer : W) (refused : Bool) (why : LineStop) (status : Status)
      → SoFar first seen.left before.sink.held refused0 before.steps reader left waiting after.sink.held answerer refused after.steps → waiting ≡ [] → Stops reader left reader' seen'.left why → (reader.ended ≡ true → ⊥) → after.sink.finishes ≡ before.sink.finishes
      → Stopped status seen seen' → CutsShort printing (TakenOf Stands Answers first seen seen' status) before after
  ends_unread first seen seen' refused0 before after reader reader' left waiting answerer refused why status so none stops not_ended same cause = record {
    answers = so.answers;
    put = moves_done (flat_map (text_under printing) so.answers) waiting before.sink.held after.sink.held so.put.put none;
    steps = so.put.paid;
    finishes = same;
    lines = (cause, λ bytes told s at. cut Stands Answers s bytes so.answers reader reader' left seen'.left answerer why (so.reached bytes told s at) stops not_ended);
  }

  -- The end was reached, when nothing waited.
  pub ends_read : (first : W) (seen : Seen) (left' : Option (List ℕ)) (refused0 : Bool) (before after : Output) (reader reader' : Reader) (left : Option (List ℕ)) (waiting : List ℕ) (answerer : W) (refused : Bool)
      → SoFar first seen.left before.sink.held refused0 before.steps reader left waiting after.sink.held answerer refused after.steps → waiting ≡ [] → Ends reader left reader' left' → after.sink.finishes ≡ before.sink.finishes → before.sink.faults ≤ after.sink.faults
      → Continues printing (ThroughOf Stands Answers first seen left' answerer) refused0 refused before after
  ends_read first seen left' refused0 before after reader reader' left waiting answerer refused so none ends same later = record {
    answers = so.answers;
    put = moves_done (flat_map (text_under printing) so.answers) waiting before.sink.held after.sink.held so.put.put none;
    refusals = so.put.refusals;
    steps = so.put.paid;
    finishes = same;
    later = later;
    lines = λ bytes told s at. through Stands Answers s bytes so.answers reader reader' left left' answerer (so.reached bytes told s at) ends;
  }

  -- The sink failed within what waited, before the source was asked.
  pub ends_unput : (first : W) (seen : Seen) (refused0 : Bool) (before after : Output) (reader : Reader) (left : Option (List ℕ)) (waiting : List ℕ) (held : Option (List ℕ)) (answerer : W) (refused : Bool)
      → SoFar first seen.left before.sink.held refused0 before.steps reader left waiting held answerer refused after.steps → AppendsPrefix held after.sink.held waiting → after.sink.finishes ≡ before.sink.finishes
      → BreaksOff printing (FirstOf Stands Answers first seen left) before after
  ends_unput first seen refused0 before after reader left waiting held answerer refused so prefix same = record {
    answers = so.answers;
    put = puts_front (text_under printing) so.answers before.sink.held after.sink.held (moves_prefix (flat_map (text_under printing) so.answers) waiting before.sink.held held after.sink.held so.put.put prefix);
    steps = so.put.paid;
    finishes = inl same;
    lines = λ bytes told s at. first_ones Stands Answers s bytes so.answers reader left answerer (so.reached bytes told s at);
  }

  -- For a line that was read behind those so far.
  module _ (first : W) (seen seen' : Seen) (refused0 : Bool) (before middle after : Output) (reader reader' : Reader) (left : Option (List ℕ)) (waiting : List ℕ) (answerer : W) (refused : Bool) (l : Line)
      (so : SoFar first seen.left before.sink.held refused0 before.steps reader left waiting middle.sink.held answerer refused middle.steps) (reads : ReadsOn reader left reader' seen'.left (line_outcome (Ok (Some l))))
      (same : middle.sink.finishes ≡ before.sink.finishes) (since : before.sink.faults ≤ middle.sink.faults) where
    abbrev Answer : Response → Type 0
    Answer answer = (next : W) × AnsweredLine Stands Answers answerer l answer next

    -- The sink failed, before its answer was made.
    breaks_before : FailsBefore printing Answer waiting middle after → after.sink.finishes ≡ middle.sink.finishes → BreaksOff printing (FirstOf Stands Answers first seen seen'.left) before after
    breaks_before fails still = record {
      answers = so.answers;
      put = puts_front (text_under printing) so.answers before.sink.held after.sink.held (moves_prefix (flat_map (text_under printing) so.answers) waiting before.sink.held middle.sink.held after.sink.held so.put.put fails.put);
      steps = fails.same ∙ so.put.paid;
      finishes = inl (still ∙ same);
      lines = λ bytes told s at. lost Stands Answers s bytes so.answers reader reader' left seen'.left answerer l (so.reached bytes told s at) reads;
    }

    -- The sink failed, when its answer was made.
    breaks_within : FailsWithin printing Answer waiting middle after → after.sink.finishes ≡ middle.sink.finishes → BreaksOff printing (FirstOf Stands Answers first seen seen'.left) before after
    breaks_within fails still = record {
      answers = so.answers ++ fails.answer ∷ [];
      put = put_in_part printing so.answers waiting before.sink.held middle.sink.held after.sink.held fails.answer so.put.put fails.put;
      steps = omega (arith, fails.paid, so.put.paid, sum_by-append reads_of so.answers (fails.answer ∷ []));
      finishes = inl (still ∙ same);
      lines = λ bytes told s at.
          let more = reach_more Stands Answers s bytes so.answers reader reader' left seen'.left answerer fails.allowed.0 fails.answer l (so.reached bytes told s at) reads fails.allowed.1 in
          first_ones Stands Answers s bytes (so.answers ++ fails.answer ∷ []) reader' seen'.left fails.allowed.0 more;
    }

    breaks : FailsToPut printing Answer waiting middle after → BreaksOff printing (FirstOf Stands Answers first seen seen'.left) before after
    breaks fails = elim fails.which as (λ _. BreaksOff printing (FirstOf Stands Answers first seen seen'.left) before after) [ inl early ↦ breaks_before early fails.finishes | inr late ↦ breaks_within late fails.finishes ]

    -- Memory ran out for it.
    runs_out : LacksMemory printing Answer waiting middle after → RunsOut printing (FirstOf Stands Answers first seen seen'.left) before after
    runs_out lacks = record {
      answers = so.answers;
      put = moves_last (flat_map (text_under printing) so.answers) waiting before.sink.held middle.sink.held after.sink.held so.put.put lacks.put;
      steps = omega (arith, so.put.paid, lacks.later);
      finishes = lacks.finishes ∙ same;
      lines = λ bytes told s at. lost Stands Answers s bytes so.answers reader reader' left seen'.left answerer l (so.reached bytes told s at) reads;
    }

    -- Its answer did not join what waits.
    pub ends_within : (status : Status) → JoinsNot printing Answer waiting status middle after → Ended printing NotWhole (TakenOf Stands Answers first seen seen') (FirstOf Stands Answers first seen seen'.left) refused0 status before after
    ends_within Status.Done e = absurd e
    ends_within Status.Refused e = absurd e
    ends_within Status.Usage e = absurd e
    ends_within Status.ReadFault e = absurd e
    ends_within Status.WriteFault e = (breaks e, rose_since before.sink.faults middle.sink.faults after.sink.faults since e.rose)
    ends_within Status.Memory e = runs_out e
    ends_within Status.TooMuch e = absurd e
