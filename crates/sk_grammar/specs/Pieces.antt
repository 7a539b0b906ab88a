-- What stands at a place of a text: the rows of tokens, tried in their order.
use Rattle.std.specs.Prelude.{ℕ, ◌+◌, min, ◌==◌, ◌&&◌, ◌||◌, not, Bool, true, false, List, [], ◌∷◌, take, drop, if◌then◌else◌, Option, Some, None, option_map, unwrap_or, bytes_eq, nat_eq, codes, encode_utf8_all}
use Rattle.std.specs.List.{list_all, prefix_len, slice_get, starts_with}
use Rattle.std.specs.Option.{option_and_then}
use Rattle.std.specs.Char.{is_whitespace, is_ascii_digit}
use Rattle.std.specs.Str.Parse.{digits_value}
use Rattle.sk_base.specs.declared.schema.Field.{Field}
use Rattle.sk_base.specs.declared.schema.Schema.{Schema}
use Rattle.sk_base.specs.declared.schema.FieldKind.{FieldKind}
use Rattle.sk_base.specs.Fields.{place_of}
use Rattle.sk_base.specs.Names.{is_name_byte}
use Rattle.sk_text.specs.Characters.{is_word_char, begins_word}
use Rattle.sk_grammar.specs.declared.token.Kind.{Kind}
use Rattle.sk_grammar.specs.Characters.{begins_capital, group_len, inner, quote_len, is_good, runs_on, run_len, run_terms}

-- A piece of a text: a token, or none where it separates, and how many characters it has.
pub record Piece : Type 0 where
  pub kind : Option Kind
  pub size : ℕ

-- A piece that is a token.
abbrev pub token_piece : Kind → ℕ → Piece
token_piece k n = record { kind = Some k; size = n }

-- A piece that separates.
abbrev pub separator : ℕ → Piece
separator n = record { kind = None; size = n }

-- A piece with so many characters more in front.
abbrev pub lengthened : ℕ → Piece → Piece
lengthened n p = record { kind = p.kind; size = n + p.size }

-- A quote, by what stands behind its first `"`.
abbrev pub quote_piece : Option ℕ → List ℕ → Piece
quote_piece field cs = token_piece (Kind.Quote field (run_terms (inner cs))) (quote_len cs)

-- A star (42) that no word character follows directly.
abbrev pub is_starred : List ℕ → Bool
is_starred [] = false
is_starred (c ∷ cs) = c == 42 && not (begins_word cs)

-- One word.
abbrev pub is_one : List (List ℕ) → Bool
is_one [] = false
is_one (t ∷ []) = true
is_one (t ∷ u ∷ ts) = false

-- The first of these.
abbrev pub first_term : List (List ℕ) → List ℕ
first_term [] = []
first_term (t ∷ ts) = t

-- A distance: digits 0 to 9 only, and 65,535 where their number is greater.
abbrev pub distance : List ℕ → Option ℕ
distance text = if list_all is_ascii_digit text then Some (min 65535 (digits_value 10 text)) else None

-- `NEAR/` or `ADJ/` and a distance.
abbrev pub distant : List ℕ → Option Kind
distant text =
    if starts_with nat_eq text (codes "NEAR/") then option_map Kind.Near (distance (drop 5 text))
    else (if starts_with nat_eq text (codes "ADJ/") then option_map Kind.Adj (distance (drop 4 text))
    else None)

-- The operator that is spelled exactly so.
abbrev pub operator_of : List ℕ → Option Kind
operator_of text =
    if bytes_eq text (codes "AND") then Some Kind.And
    else (if bytes_eq text (codes "OR") then Some Kind.Or
    else (if bytes_eq text (codes "XOR") then Some Kind.Xor
    else (if bytes_eq text (codes "NOT") then Some Kind.Not
    else (if bytes_eq text (codes "NEAR") then Some (Kind.Near 10)
    else (if bytes_eq text (codes "ADJ") then Some (Kind.Adj 10)
    else distant text)))))

-- One word, or several that are joined.
abbrev pub words_kind : Option ℕ → Bool → List (List ℕ) → Kind
words_kind field capital terms = if is_one terms then Kind.Word field (first_term terms) capital else Kind.Joined field terms

-- The token of a group without a star, by how it is written and whether a capital letter begins it: only without a field is it an operator.
abbrev pub group_kind : Option ℕ → List ℕ → Bool → List (List ℕ) → Kind
group_kind None text capital terms = unwrap_or (operator_of text) (words_kind None capital terms)
group_kind (Some f) text capital terms = words_kind (Some f) capital terms

-- The piece of a group of so many characters.
abbrev pub group_of_len : Option ℕ → ℕ → List ℕ → Piece
group_of_len field n cs =
    if is_one (run_terms (take n cs)) && is_starred (drop n cs) then token_piece (Kind.Wild field (first_term (run_terms (take n cs)))) (n + 1)
    else token_piece (group_kind field (encode_utf8_all (take n cs)) (begins_capital cs) (run_terms (take n cs))) n

-- The piece of the group at this place.
abbrev pub group_piece : Option ℕ → List ℕ → Piece
group_piece field cs = group_of_len field (group_len false cs) cs

-- Behind the colon of a text field: a group, a good quote or an open bracket.
abbrev pub text_piece : ℕ → List ℕ → Option Piece
text_piece f [] = None
text_piece f (c ∷ cs) =
    if is_word_char c then Some (group_piece (Some f) (c ∷ cs))
    else (if c == 34 && is_good cs then Some (quote_piece (Some f) cs)
    else (if c == 40 then Some (token_piece (Kind.Open (Some f)) 1)
    else None))

-- Behind the colon of a filter: a quote, good or not, or the longest run of characters that are neither white space nor `)`.
abbrev pub filter_piece : ℕ → List ℕ → Option Piece
filter_piece f [] = None
filter_piece f (c ∷ cs) =
    if c == 34 then Some (token_piece (Kind.Filter f (encode_utf8_all (inner cs))) (quote_len cs))
    else (if runs_on c then Some (token_piece (Kind.Filter f (encode_utf8_all (take (run_len (c ∷ cs)) (c ∷ cs)))) (run_len (c ∷ cs)))
    else None)

-- Behind the colon of a number or of a word: the longest such run, quotes and all.
abbrev pub range_piece : ℕ → List ℕ → Option Piece
range_piece f [] = None
range_piece f (c ∷ cs) =
    if runs_on c then Some (token_piece (Kind.Range f (encode_utf8_all (take (run_len (c ∷ cs)) (c ∷ cs)))) (run_len (c ∷ cs)))
    else None

-- Behind the colon of a field of this kind.
abbrev pub value_piece : ℕ → FieldKind → List ℕ → Option Piece
value_piece f (FieldKind.Text prefix step) cs = text_piece f cs
value_piece f (FieldKind.Filter prefix) cs = filter_piece f cs
value_piece f (FieldKind.Number slot) cs = range_piece f cs
value_piece f (FieldKind.Word slot) cs = range_piece f cs

-- Behind the name of the field at this place of the schema: a colon (58), and what the field's kind needs.
abbrev pub colon_piece : Schema → ℕ → List ℕ → Option Piece
colon_piece schema f [] = None
colon_piece schema f (c ∷ cs) =
    if c == 58 then option_map (lengthened 1) (option_and_then (λ field. value_piece f (Field.kind field) cs) (slice_get schema.fields f))
    else None

-- Behind a name of so many characters.
abbrev pub named_piece : Schema → ℕ → List ℕ → Option Piece
named_piece schema n cs =
    option_map (lengthened n) (option_and_then (λ f. colon_piece schema f (drop n cs)) (place_of (encode_utf8_all (take n cs)) schema.fields))

-- A field's name, which is the longest run of a to z, 0 to 9 and `_`, a colon, and what the field's kind needs.
abbrev pub field_piece : Schema → List ℕ → Option Piece
field_piece schema cs = named_piece schema (prefix_len is_name_byte cs) cs

-- A mark may stand behind nothing, white space or `(` (40).
abbrev pub takes_mark : Option ℕ → Bool
takes_mark None = true
takes_mark (Some c) = is_whitespace c || c == 40

-- A mark stands directly before a word character, `(` or a good quote.
abbrev pub is_marked : List ℕ → Bool
is_marked [] = false
is_marked (c ∷ cs) = is_word_char c || c == 40 || (c == 34 && is_good cs)

-- `+` (43) or `-` (45) where it is a mark.
abbrev pub mark_piece : Option ℕ → ℕ → List ℕ → Option Piece
mark_piece previous c cs =
    if takes_mark previous && is_marked cs then (if c == 43 then Some (token_piece Kind.Plus 1) else (if c == 45 then Some (token_piece Kind.Minus 1) else None))
    else None

-- A group, or any other character.
abbrev pub last_piece : ℕ → List ℕ → Piece
last_piece c cs = if is_word_char c then group_piece None (c ∷ cs) else separator 1

-- The piece at a place, by the character before it, the character there and those behind: the first row that applies.
abbrev pub piece_at : Schema → Option ℕ → ℕ → List ℕ → Piece
piece_at schema previous c cs =
    if is_whitespace c then separator 1
    else (if c == 34 then (if is_good cs then quote_piece None cs else separator (quote_len cs))
    else (if c == 40 then token_piece (Kind.Open None) 1
    else (if c == 41 then token_piece Kind.Close 1
    else unwrap_or (mark_piece previous c cs) (unwrap_or (field_piece schema (c ∷ cs)) (last_piece c cs)))))
