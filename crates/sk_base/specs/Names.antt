-- How fields and the prefixes of terms are named.
use Rattle.std.specs.Prelude.{ℕ, Bool, true, false, ◌&&◌, ◌||◌, ◌==◌, not, nat_le, List, [], ◌∷◌, length, if◌then◌else◌}
use Rattle.std.specs.List.{list_all}
use Rattle.std.specs.Char.{is_ascii_lowercase, is_ascii_uppercase, is_ascii_digit}

-- The letters a to z, 0 to 9 and `_` (95).
abbrev pub is_name_byte : ℕ → Bool
is_name_byte b = is_ascii_lowercase b || is_ascii_digit b || b == 95

-- A name has 1 to 32 bytes of a to z, 0 to 9 and `_`, the first a letter.
abbrev pub is_name : List ℕ → Bool
is_name [] = false
is_name (c ∷ cs) = is_ascii_lowercase c && nat_le (length cs) 31 && list_all is_name_byte cs

-- A prefix is empty, `X` (88) followed by 1 to 15 capital letters, or one capital letter other than `X` and `Z` (90).
abbrev pub is_prefix : List ℕ → Bool
is_prefix [] = true
is_prefix (c ∷ cs) =
    if c == 88 then not (length cs == 0) && nat_le (length cs) 15 && list_all is_ascii_uppercase cs
    else (length cs == 0) && is_ascii_uppercase c && not (c == 90)
