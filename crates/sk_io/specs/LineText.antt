-- What a line of a text is.
use Rattle.std.specs.Prelude.{◌≡◌, ◌≢◌, ℕ, ◌<◌, ◌⊎◌, List, [], ◌∷◌, ◌++◌, length}

-- How many bytes a line may have, without its end.
abbrev pub most_line : ℕ
most_line = 1048576

-- No byte is a line's end.
abbrev pub NoLineEnd : List ℕ → Type 0
NoLineEnd [] = Unit {0}
NoLineEnd (b ∷ bs) = (b ≢ 10) × NoLineEnd bs

-- Some byte is a line's end.
abbrev pub HasLineEnd : List ℕ → Type 0
HasLineEnd bytes = NoLineEnd bytes → ⊥

-- `line` is the first line of s, and `after` is what follows it
pub record IsLine (line s after : List ℕ) : Type 0 where
  pub no_end : NoLineEnd line
  pub is : (s ≡ line ++ 10 ∷ after) ⊎ ((s ≡ line) × (0 < length line) × (after ≡ []))
