-- What the answers to the lines of one source are of, and the ends of a run over them.
use Rattle.std.specs.Prelude.{ℕ, Bool, List, Option}
use Rattle.sk_io.specs.Seen.{Seen}
use Rattle.sk_run.specs.declared.response.Printing.{Printing}
use Rattle.sk_run.specs.declared.response.Response.{Response}
use Rattle.sk_run.specs.declared.status.Status.{Status}
use Rattle.sk_run.specs.Outsides.{Output, WhereTold}
use Rattle.sk_run.specs.Ends.{Stopped, AnswersAll, AnswersTaken, AnswersFirst, AnswersSome, AnswersThrough}
use Rattle.sk_run.specs.Ended.{Ended, Continues, NotWhole}

-- For answers to the lines of a source, from each state on that the first answerer stands for, where the source tells its bytes.
module _ {W S : Type 0} (Stands : W → S → Type 0) (Answers : S → List ℕ → Response → S → Type 0) where
  -- They are of its first lines.
  abbrev pub FirstOf : W → Seen → Option (List ℕ) → List Response → Type 0
  FirstOf first seen left answers = WhereTold seen (λ bytes. (s : S) → Stands first s → AnswersFirst Answers s bytes answers left)

  -- They are of what was taken of it, and it stopped.
  abbrev pub TakenOf : W → Seen → Seen → Status → List Response → Type 0
  TakenOf first seen seen' status answers = Stopped status seen seen' × WhereTold seen (λ bytes. (s : S) → Stands first s → AnswersTaken Answers s bytes answers seen'.left)

  -- They are of all its lines, and the last answerer stands for the state behind them.
  abbrev pub ThroughOf : W → Seen → Option (List ℕ) → W → List Response → Type 0
  ThroughOf first seen left now answers = WhereTold seen (λ bytes. (s : S) → Stands first s → AnswersThrough Answers Stands now s bytes answers left)

  -- They are of all its lines, and the run was closed.
  abbrev pub AllOf : (S → Response → Type 0) → W → Seen → Option (List ℕ) → List Response → Type 0
  AllOf Closes first seen left answers = WhereTold seen (λ bytes. (s : S) → Stands first s → AnswersAll Answers Closes s bytes answers left)

  -- They are of its first lines, or of all and the run was closed.
  abbrev pub SomeOf : (S → Response → Type 0) → W → Seen → Option (List ℕ) → List Response → Type 0
  SomeOf Closes first seen left answers = WhereTold seen (λ bytes. (s : S) → Stands first s → AnswersSome Answers Closes s bytes answers left)

  -- Where answers are printed so, and the source was seen so before and after.
  module _ (printing : Printing) (first : W) (seen seen' : Seen) where
    -- The lines were answered to their end, and the run goes on.
    abbrev pub GoesThrough : W → Bool → Bool → Output → Output → Type 0
    GoesThrough now refused refused' before after = Continues printing (ThroughOf first seen seen'.left now) refused refused' before after

    -- The lines were not answered to their end.
    abbrev pub StopsWithin : Bool → Status → Output → Output → Type 0
    StopsWithin refused status before after = Ended printing NotWhole (TakenOf first seen seen') (FirstOf first seen seen'.left) refused status before after

    -- The lines were answered to their end and the run closed, or not.
    abbrev pub EndsLines : (S → Response → Type 0) → Bool → Status → Output → Output → Type 0
    EndsLines Closes refused status before after =
        Ended printing (AllOf Closes first seen seen'.left) (TakenOf first seen seen') (SomeOf Closes first seen seen'.left) refused status before after
