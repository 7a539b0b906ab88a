-- How lines are answered, one after the other, by whatever goes from state to state.
use Rattle.std.specs.Prelude.{ℕ, ◌<◌, List, [], ◌∷◌, length}
use Rattle.sk_io.specs.declared.line.Line.{Line}
use Rattle.sk_io.specs.declared.line.Line.TheVariants.{Whole, TooLong}
use Rattle.sk_io.specs.LineText.{most_line, IsLine}

-- From a state on, the first lines of the bytes may be answered so, one answer a line, where `Answers` says what a line may be answered and the state that it leaves; they leave a state, and bytes that were not read.
pub data LineByLine {S R : Type 0} (Answers : S → List ℕ → R → S → Type 0) : S → List ℕ → List R → S → List ℕ → Type 0 where
  stop : {s : S} {bytes : List ℕ} → LineByLine Answers s bytes [] s bytes
  line : {s next last : S} {bytes text after rest : List ℕ} {answer : R} {answers : List R}
      → IsLine text bytes after → Answers s text answer next → LineByLine Answers next after answers last rest → LineByLine Answers s bytes (answer ∷ answers) last rest

-- There is a state that is allowed, and `now` stands for it.
pub record IsReached {W S : Type 0} (Stands : W → S → Type 0) (Allows : S → Type 0) (now : W) : Type 0 where
  pub next : S
  pub allowed : Allows next
  pub at : Stands now next

-- From each state that `old` stands for, the line was answered as that state allows, and `new` stands for the state after it.
abbrev pub Answered : {W S R : Type 0} → (W → S → Type 0) → (S → List ℕ → R → S → Type 0) → W → List ℕ → R → W → Type 0
Answered {W} {S} {R} Stands Answers old text answer new = (s : S) → Stands old s → IsReached Stands (Answers s text answer) new

-- A whole line was answered, or any line that is too long.
abbrev pub AnsweredLine : {W S R : Type 0} → (W → S → Type 0) → (S → List ℕ → R → S → Type 0) → W → Line → R → W → Type 0
AnsweredLine Stands Answers old (Whole text) answer new = Answered Stands Answers old text.now answer new
AnsweredLine Stands Answers old TooLong answer new = (text : List ℕ) → most_line < length text → Answered Stands Answers old text answer new
