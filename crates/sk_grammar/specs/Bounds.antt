-- The bounds of a range, as they are written.
use Rattle.std.specs.Prelude.{ℕ, ◌^◌, ◌==◌, ◌&&◌, ◌||◌, nat_lt, Bool, true, false, List, [], ◌∷◌, length, if◌then◌else◌, Option, Some, None}
use Rattle.std.specs.List.{list_all}
use Rattle.std.specs.Char.{is_ascii_digit}
use Rattle.std.specs.Str.Parse.{digits_value}
use Rattle.sk_base.specs.declared.schema.FieldKind.{FieldKind}

-- Two texts, with a byte more in front of the first.
abbrev pub with_front : ℕ → Option (List ℕ × List ℕ) → Option (List ℕ × List ℕ)
with_front b None = None
with_front b (Some sides) = Some (b ∷ sides.0, sides.1)

-- The two sides of the first `..`, where these bytes follow the first, and the sides in them are known. A dot is 46.
abbrev pub dots_at : ℕ → List ℕ → Option (List ℕ × List ℕ) → Option (List ℕ × List ℕ)
dots_at b [] later = with_front b later
dots_at b (c ∷ cs) later = if b == 46 && c == 46 then Some ([], cs) else with_front b later

-- What stands before the first `..` of a text and what behind it, if there is one.
abbrev pub at_dots : List ℕ → Option (List ℕ × List ℕ)
at_dots [] = None
at_dots (b ∷ bs) = dots_at b bs (at_dots bs)

-- The two bounds of a text: the sides of its first `..`, or the text on both sides where there is none.
abbrev pub bounds_or : List ℕ → Option (List ℕ × List ℕ) → List ℕ × List ℕ
bounds_or text None = (text, text)
bounds_or text (Some sides) = sides

abbrev pub halves : List ℕ → List ℕ × List ℕ
halves text = bounds_or text (at_dots text)

-- A field of numbers.
abbrev pub is_number_kind : FieldKind → Bool
is_number_kind (FieldKind.Number slot) = true
is_number_kind _ = false

-- A bound that is open, or one or more digits 0 to 9 with a value of 64 bits.
abbrev pub is_number : List ℕ → Bool
is_number text = length text == 0 || (list_all is_ascii_digit text && nat_lt (digits_value 10 text) (2 ^ 64))

-- Both bounds are.
abbrev pub are_numbers : List ℕ × List ℕ → Bool
are_numbers sides = is_number sides.0 && is_number sides.1
