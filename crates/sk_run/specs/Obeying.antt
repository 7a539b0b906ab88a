-- How commands are obeyed, one after the other.
use Rattle.std.specs.Prelude.{◌≡◌, List, [], ◌∷◌, ◌++◌, ◌⊎◌}
use Rattle.serde_json.specs.Data.{Data}
use Rattle.sk_base.specs.declared.command.Command.{Command}

-- From a state on, the first of the commands may be answered so, one answer a command, where `Obeys` says what a command may be answered and the state that it leaves; they leave a state, and commands that were not obeyed.
pub data Obeyings {S R : Type 0} (Obeys : S → Command Data → R → S → Type 0) : S → List (Command Data) → List R → S → List (Command Data) → Type 0 where
  rest : {s : S} {commands : List (Command Data)} → Obeyings Obeys s commands [] s commands
  obey : {s next last : S} {command : Command Data} {commands left : List (Command Data)} {answer : R} {answers : List R}
      → Obeys s command answer next → Obeyings Obeys next commands answers last left → Obeyings Obeys s (command ∷ commands) (answer ∷ answers) last left

-- For what a command may be answered, and what closes the run.
module _ {S R : Type 0} (Obeys : S → Command Data → R → S → Type 0) where
  -- All commands were obeyed; the last answer closes the run.
  pub record ObeysAll (Closes : S → R → Type 0) (start : S) (commands : List (Command Data)) (answers : List R) : Type 0 where
    pub of_commands : List R
    pub closing : R
    pub last : S
    pub all : answers ≡ of_commands ++ closing ∷ []
    pub runs : Obeyings Obeys start commands of_commands last []
    pub closes : Closes last closing

  -- The first of the commands were obeyed.
  pub record ObeysFirst (start : S) (commands : List (Command Data)) (answers : List R) : Type 0 where
    pub last : S
    pub left : List (Command Data)
    pub runs : Obeyings Obeys start commands answers last left

  -- The first of the commands were obeyed, or all of them and the run closed.
  abbrev pub ObeysSome : (S → R → Type 0) → S → List (Command Data) → List R → Type 0
  ObeysSome Closes start commands answers = ObeysFirst start commands answers ⊎ ObeysAll Closes start commands answers

  -- All commands were obeyed, and `now` stands for the state that they leave.
  pub record ObeysThrough {W : Type 0} (Stands : W → S → Type 0) (now : W) (start : S) (commands : List (Command Data)) (answers : List R) : Type 0 where
    pub last : S
    pub runs : Obeyings Obeys start commands answers last []
    pub at : Stands now last
