-- The pieces of the code as those of the definitions.
use Rattle.std.specs.Prelude.{ℕ, ◌==◌, Bool, false, ◌+◌, ◌-◌, ◌*◌, min, if◌then◌else◌, List, [], ◌∷◌, Option, Some, None, unwrap_or}
use Rattle.std.specs.Char.{is_ascii_digit}
use Rattle.std.specs.List.{slice_get}
use Rattle.std.specs.Option.{option_and_then}
use Rattle.sk_base.specs.declared.schema.Field.{Field}
use Rattle.sk_base.specs.declared.schema.Schema.{Schema}
use Rattle.sk_grammar.specs.Pieces.{Piece, separator, piece_at, mark_piece, field_piece, last_piece, value_piece}
use Rattle.sk_lexer.specs.declared.piece.Cut.{Cut}

-- A piece of the code.
abbrev pub shown : Cut → Piece
shown cut = record { kind = cut.kind; size = cut.size }

-- The piece at the front of what is left.
abbrev pub piece_in : Schema → Option ℕ → List ℕ → Piece
piece_in schema previous [] = separator 1
piece_in schema previous (c ∷ cs) = piece_at schema previous c cs

-- The distance that digits say, where those before them say this one.
abbrev pub distance_behind : ℕ → List ℕ → Option ℕ
distance_behind n [] = Some n
distance_behind n (b ∷ bs) = if is_ascii_digit b then distance_behind (min 65535 (n * 10 + (b - 48))) bs else None

-- A colon (58) stands first.
abbrev pub begins_colon : List ℕ → Bool
begins_colon [] = false
begins_colon (c ∷ cs) = c == 58

-- What stands at the front, as a mark.
abbrev pub mark_in : Option ℕ → List ℕ → Option Piece
mark_in previous [] = None
mark_in previous (c ∷ cs) = mark_piece previous c cs

-- As a group, or any other character.
abbrev pub last_in : List ℕ → Piece
last_in [] = separator 1
last_in (c ∷ cs) = last_piece c cs

-- As a mark, a field, a group or any other character.
abbrev pub other_in : Schema → Option ℕ → List ℕ → Piece
other_in schema previous here = unwrap_or (mark_in previous here) (unwrap_or (field_piece schema here) (last_in here))

-- What the kind of the field at this place of the schema needs, behind the colon.
abbrev pub field_value : Schema → ℕ → List ℕ → Option Piece
field_value schema f cs = option_and_then (λ field. value_piece f (Field.kind field) cs) (slice_get schema.fields f)
