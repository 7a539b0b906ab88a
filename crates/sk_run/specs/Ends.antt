-- What a run over lines has read and put when it ends.
use Rattle.std.specs.Prelude.{◌≡◌, ℕ, ◌+◌, ◌^◌, List, [], ◌∷◌, ◌++◌, length, Option, Some, ◌⊎◌, flat_map}
use Rattle.std.specs.Io.KnownBytes.{Appends}
use Rattle.sk_io.specs.Causes.{Rose}
use Rattle.sk_io.specs.LineText.{NoLineEnd}
use Rattle.sk_run.specs.declared.status.Status.{Status}
use Rattle.sk_io.specs.Seen.{Seen}
use Rattle.sk_run.specs.Outsides.{WhereTold}
use Rattle.sk_run.specs.Lines.{LineByLine}

-- The bytes are none, or their last one is a line's end.
abbrev pub EndsLine : List ℕ → Type 0
EndsLine bytes = (bytes ≡ []) ⊎ ((before : List ℕ) × (bytes ≡ before ++ 10 ∷ []))

-- What the sink took is a front of the texts of these answers.
pub record PutsFront {R : Type 0} (text : R → List ℕ) (answers : List R) (held_before held_after : Option (List ℕ)) : Type 0 where
  pub shown : List ℕ
  pub hidden : List ℕ
  pub parts : flat_map text answers ≡ shown ++ hidden
  pub put : Appends held_before held_after shown

-- As many bytes as the limit were taken.
pub record TakesAll (limit : ℕ) (bytes : List ℕ) (left_after : Option (List ℕ)) : Type 0 where
  pub rest : List ℕ
  pub left : left_after ≡ Some rest
  pub taken : length bytes ≡ limit + length rest

-- Why a source stopped before its end: it failed, or 2^40 bytes of it were taken.
abbrev pub Stopped : Status → Seen → Seen → Type 0
Stopped Status.Done before after = ⊥
Stopped Status.Refused before after = ⊥
Stopped Status.Usage before after = ⊥
Stopped Status.ReadFault before after = Rose before.faults after.faults
Stopped Status.WriteFault before after = ⊥
Stopped Status.Memory before after = ⊥
Stopped Status.TooMuch before after = WhereTold before (λ bytes. TakesAll (2 ^ 40) bytes after.left)

-- For what a line may be answered, and the state that it leaves.
module _ {S R : Type 0} (Answers : S → List ℕ → R → S → Type 0) where
  -- Of these bytes all lines were answered and none is left; the last answer closes the run.
  pub record AnswersAll (Closes : S → R → Type 0) (start : S) (bytes : List ℕ) (answers : List R) (left_after : Option (List ℕ)) : Type 0 where
    pub of_lines : List R
    pub closing : R
    pub last : S
    pub all : answers ≡ of_lines ++ closing ∷ []
    pub runs : LineByLine Answers start bytes of_lines last []
    pub closes : Closes last closing
    pub left : left_after ≡ Some []

  -- All lines whose end was taken were answered. What was taken behind them holds no line's end.
  pub record AnswersTaken (start : S) (bytes : List ℕ) (answers : List R) (left_after : Option (List ℕ)) : Type 0 where
    pub last : S
    pub lines : List ℕ
    pub open_line : List ℕ
    pub rest : List ℕ
    pub is : bytes ≡ lines ++ (open_line ++ rest)
    pub line_end : EndsLine lines
    pub runs : LineByLine Answers start bytes answers last (open_line ++ rest)
    pub no_end : NoLineEnd open_line
    pub left : left_after ≡ Some rest

  -- First lines of those that were taken were answered.
  pub record AnswersFirst (start : S) (bytes : List ℕ) (answers : List R) (left_after : Option (List ℕ)) : Type 0 where
    pub last : S
    pub pending : List ℕ
    pub rest : List ℕ
    pub runs : LineByLine Answers start bytes answers last (pending ++ rest)
    pub left : left_after ≡ Some rest

  -- First lines of those that were taken were answered, or all of them and the run closed.
  pub record AnswersSome (Closes : S → R → Type 0) (start : S) (bytes : List ℕ) (answers : List R) (left_after : Option (List ℕ)) : Type 0 where
    pub which : AnswersFirst start bytes answers left_after ⊎ AnswersAll Closes start bytes answers left_after

  -- All lines were answered and none is left, and `now` stands for the state that they leave.
  pub record AnswersThrough {W : Type 0} (Stands : W → S → Type 0) (now : W) (start : S) (bytes : List ℕ) (answers : List R) (left_after : Option (List ℕ)) : Type 0 where
    pub last : S
    pub runs : LineByLine Answers start bytes answers last []
    pub at : Stands now last
    pub left : left_after ≡ Some []
