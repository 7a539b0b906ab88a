-- What the answers of a run are answers to, by the form of its words. A run begins without a schema.
use Rattle.std.specs.Prelude.{◌≡◌, ℕ, false, List, [], ◌++◌, Option, Some, None, ◌⊎◌}
use Rattle.sk_run.specs.declared.form.Form.{Form}
use Rattle.sk_run.specs.declared.form.Form.TheVariants.{Run, Search, Demo}
use Rattle.sk_run.specs.declared.response.Response.{Response}
use Rattle.sk_run.specs.declared.response.Printing.{Printing}
use Rattle.sk_run.specs.declared.response.Printing.TheVariants.{All, WithoutOk}
use Rattle.sk_run.specs.declared.status.Status.{Status}
use Rattle.sk_run.specs.Outsides.{Outside, WhereTold, IsTold}
use Rattle.sk_run.specs.Lines.{LineByLine}
use Rattle.sk_run.specs.Ends.{Stopped, AnswersAll, AnswersTaken, AnswersFirst, AnswersSome}
use Rattle.sk_run.specs.Ended.{Ended}
use Rattle.sk_run.specs.Conducts.{Conduct, Obeys, Answers, AnswersQuery, Closes}
use Rattle.sk_run.specs.Obeying.{ObeysAll, ObeysSome}
use Rattle.sk_run.specs.Demos.{demo_commands}

-- Which answers are printed: all under `run`, and else those that do not begin with `ok`.
abbrev pub printing_of : Form → Printing
printing_of Run = All
printing_of (Search join) = WithoutOk
printing_of (Demo documents) = WithoutOk

-- All lines of the records were answered, and from the state that they leave the other answers go on.
pub record BehindRecords {S R : Type 0} (Answers : S → List ℕ → R → S → Type 0) (start : S) (records : List ℕ) (answers : List R) (left_after : Option (List ℕ)) (GoesOn : S → List R → Type 0) : Type 0 where
  pub of_records : List R
  pub others : List R
  pub middle : S
  pub parts : answers ≡ of_records ++ others
  pub runs : LineByLine Answers start records of_records middle []
  pub left : left_after ≡ Some []
  pub goes_on : GoesOn middle others

-- Over a store of this conduct.
module _ {S : Type 0} (conduct : Conduct S) where
  -- All was answered. Under `run`: each line of the input as a command. Under `search`: each line of the records as a command and then each line of the input as a query text. Under `demo`: the commands of the demonstration. The last answer closes the run.
  abbrev pub WholeBy : Form → Outside → Outside → List Response → Type 0
  WholeBy Run before after answers = WhereTold before.input (λ input. AnswersAll (Answers conduct) (Closes conduct) None input answers after.input.left)
  WholeBy (Search join) before after answers =
      WhereTold before.records (λ records. WhereTold before.input (λ input.
      BehindRecords (Answers conduct) None records answers after.records.left
      (λ middle others. AnswersAll (AnswersQuery conduct join) (Closes conduct) middle input others after.input.left)))
  WholeBy (Demo documents) before after answers = ObeysAll (Obeys conduct) (Closes conduct) None (demo_commands documents) answers

  -- A source stopped. All lines were answered whose end was taken: of the input, or of the records, and then nothing of the input was touched, or of the input behind all lines of the records. A demonstration takes nothing of a source.
  abbrev pub TakenBy : Form → Outside → Outside → Status → List Response → Type 0
  TakenBy Run before after status answers = Stopped status before.input after.input × WhereTold before.input (λ input. AnswersTaken (Answers conduct) None input answers after.input.left)
  TakenBy (Search join) before after status answers =
      (Stopped status before.records after.records × (after.input ≡ before.input) × WhereTold before.records (λ records. AnswersTaken (Answers conduct) None records answers after.records.left))
      ⊎ (Stopped status before.input after.input × WhereTold before.records (λ records. WhereTold before.input (λ input.
      BehindRecords (Answers conduct) None records answers after.records.left
      (λ middle others. AnswersTaken (AnswersQuery conduct join) middle input others after.input.left))))
  TakenBy (Demo documents) before after status answers = ⊥

  -- First lines, or commands, of those that were taken were answered, or all of them and the run closed.
  abbrev pub FirstBy : Form → Outside → Outside → List Response → Type 0
  FirstBy Run before after answers = WhereTold before.input (λ input. AnswersSome (Answers conduct) (Closes conduct) None input answers after.input.left)
  FirstBy (Search join) before after answers =
      ((after.input ≡ before.input) × WhereTold before.records (λ records. AnswersFirst (Answers conduct) None records answers after.records.left))
      ⊎ WhereTold before.records (λ records. WhereTold before.input (λ input.
      BehindRecords (Answers conduct) None records answers after.records.left
      (λ middle others. AnswersSome (AnswersQuery conduct join) (Closes conduct) middle input others after.input.left)))
  FirstBy (Demo documents) before after answers = ObeysSome (Obeys conduct) (Closes conduct) None (demo_commands documents) answers

  -- What a run did under the words of a form: what its status says, and what was put, read and counted by then.
  abbrev pub EndedBy : Form → Status → Outside → Outside → Type 0
  EndedBy form status before after = Ended (printing_of form) (WholeBy form before after) (TakenBy form before after) (FirstBy form before after) false status before.output after.output

-- The sources that the words do not touch are as before: the records under `run`, and both under `demo`.
abbrev pub LeavesAlone : Form → Outside → Outside → Type 0
LeavesAlone Run before after = after.records ≡ before.records
LeavesAlone (Search join) before after = Unit {0}
LeavesAlone (Demo documents) before after = (after.input ≡ before.input) × (after.records ≡ before.records)

-- The sources that the words read tell their bytes: the input under `run`, and both under `search`. A demonstration reads none.
abbrev pub ReadsTold : Form → Outside → Type 0
ReadsTold Run before = IsTold before.input
ReadsTold (Search join) before = IsTold before.records × IsTold before.input
ReadsTold (Demo documents) before = Unit {0}
