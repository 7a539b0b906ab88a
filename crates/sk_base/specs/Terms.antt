-- How a prefix and a text make a term.
use Rattle.std.specs.Prelude.{ℕ, Bool, false, ◌&&◌, ◌||◌, ◌==◌, nat_lt, List, [], ◌∷◌, ◌++◌, length, if◌then◌else◌}
use Rattle.std.specs.Char.{is_ascii_uppercase}

-- A capital letter or a colon (58) in front could be read as the end of the prefix.
abbrev pub begins_like_prefix : List ℕ → Bool
begins_like_prefix [] = false
begins_like_prefix (c ∷ cs) = is_ascii_uppercase c || c == 58

-- Behind a prefix of several letters, a text that begins with a capital letter or a colon stands behind a colon.
abbrev pub needs_colon : List ℕ → List ℕ → Bool
needs_colon prefix text = nat_lt 1 (length prefix) && begins_like_prefix text

-- The term of a text under a prefix.
abbrev pub prefixed : List ℕ → List ℕ → List ℕ
prefixed prefix text = if needs_colon prefix text then prefix ++ (58 ∷ text) else prefix ++ text

-- A text with a byte in it.
abbrev pub is_given : List ℕ → Bool
is_given text = nat_lt 0 (length text)
