-- The one cutting of a text, and its tokens.
use Rattle.std.specs.Prelude.{◌≡◌, ◌≤◌, ℕ, zero, suc, pred, ◌+◌, List, [], ◌∷◌, ◌++◌, length, take, drop, sum_by, Option, Some, None, chars}
use Rattle.std.specs.Char.{len_utf8}
use Rattle.sk_base.specs.declared.schema.Schema.{Schema}
use Rattle.sk_grammar.specs.declared.token.Kind.{Kind}
use Rattle.sk_grammar.specs.declared.token.Token.{Token}
use Rattle.sk_grammar.specs.Pieces.{Piece, piece_at}

-- The last of these characters, or what stood before them.
abbrev pub last_of : Option ℕ → List ℕ → Option ℕ
last_of before [] = before
last_of before (c ∷ cs) = last_of (Some c) cs

-- Behind the character `before`, these pieces laid end to end are what is left of the text, and each is what the rows give at its place.
abbrev pub AreLaid : Schema → Option ℕ → List ℕ → List Piece → Type 0
AreLaid schema before left [] = left ≡ []
AreLaid schema before left (p ∷ ps) =
    (c : ℕ) × (cs : List ℕ) × (left ≡ c ∷ cs) × (p ≡ piece_at schema before c cs) × (1 ≤ p.size) × (p.size ≤ length left)
    × AreLaid schema (last_of before (take p.size left)) (drop p.size left) ps

-- These pieces are a cutting of the text with these characters.
abbrev pub IsCut : Schema → List ℕ → List Piece → Type 0
IsCut schema cs ps = AreLaid schema None cs ps

-- The pieces that are still to come, where the next begins behind so many characters more.
abbrev pub pieces_behind : Schema → Option ℕ → ℕ → List ℕ → List Piece
pieces_behind schema before n [] = []
pieces_behind schema before (suc n) (c ∷ cs) = pieces_behind schema (Some c) n cs
pieces_behind schema before zero (c ∷ cs) =
    piece_at schema before c cs ∷ pieces_behind schema (Some c) (pred (Piece.size (piece_at schema before c cs))) cs

-- The pieces of a text, as they are computed.
abbrev pub pieces_of : Schema → List ℕ → List Piece
pieces_of schema cs = pieces_behind schema None 0 cs

-- The token of a piece that begins and ends at these bytes, or none of a piece that separates.
abbrev pub token_at : Option Kind → ℕ → ℕ → List Token
token_at None from to = []
token_at (Some kind) from to = record { kind = kind; from = from; to = to } ∷ []

-- How many bytes these characters take.
abbrev pub byte_len : List ℕ → ℕ
byte_len cs = sum_by len_utf8 cs

-- The tokens of pieces, the first of which begins at this byte of the text.
abbrev pub tokens_from : ℕ → List ℕ → List Piece → List Token
tokens_from at left [] = []
tokens_from at left (p ∷ ps) =
    token_at p.kind at (at + byte_len (take p.size left)) ++ tokens_from (at + byte_len (take p.size left)) (drop p.size left) ps

-- The tokens of the text with these characters.
abbrev pub tokens_in : Schema → List ℕ → List Token
tokens_in schema cs = tokens_from 0 cs (pieces_of schema cs)

-- The tokens of a text.
abbrev pub tokens_of : Schema → List ℕ → List Token
tokens_of schema text = tokens_in schema (chars text)
