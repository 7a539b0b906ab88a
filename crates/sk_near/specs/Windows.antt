-- Windows that have a position of each operand.
use Rattle.std.specs.Prelude.{◌≡◌, ◌<◌, ◌≤◌, ◌^◌, ℕ, true, false, List}
use Rattle.sk_model.specs.Laws.{stand_within}

-- All windows that have a position of each operand begin here or behind.
abbrev pub WindowsFrom : ℕ → ℕ → List (List ℕ) → Type 0
WindowsFrom window low places = (p : ℕ) → stand_within window p places ≡ true → low ≤ p

-- No window has a position of each operand.
abbrev pub HasNoWindow : ℕ → List (List ℕ) → Type 0
HasNoWindow window places = (p : ℕ) → stand_within window p places ≡ false

-- The windows begin at the raised bound or behind; where it has not risen, one begins there.
pub record IsRaised (window : ℕ) (places : List (List ℕ)) (low raised : ℕ) : Type 0 where
  pub later : low ≤ raised
  pub small : raised < 2 ^ 32
  pub from : WindowsFrom window raised places
  pub found : raised ≡ low → stand_within window raised places ≡ true
