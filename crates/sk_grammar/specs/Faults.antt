-- When a text is no query: each fault as a test of one token, by the tokens before it (the nearest first) and those behind it.
use Rattle.std.specs.Prelude.{ℕ, suc, pred, ◌+◌, ◌==◌, ◌&&◌, ◌||◌, not, nat_lt, nat_le, Bool, true, false, List, [], ◌∷◌, length, map, if◌then◌else◌, Option, Some, None}
use Rattle.std.specs.List.{slice_get}
use Rattle.sk_base.specs.declared.schema.Field.{Field}
use Rattle.sk_base.specs.declared.schema.Schema.{Schema}
use Rattle.sk_grammar.specs.Bounds.{halves, is_number_kind, are_numbers}
use Rattle.sk_grammar.specs.declared.fault.FaultKind.{FaultKind}
use Rattle.sk_grammar.specs.declared.token.Kind.{Kind}
use Rattle.sk_grammar.specs.declared.token.Token.{Token}

-- A word, a filter or a range, alone or several: what a query is made of.
abbrev pub is_item : Kind → Bool
is_item (Kind.Word field text capital) = true
is_item (Kind.Wild field text) = true
is_item (Kind.Joined field texts) = true
is_item (Kind.Quote field texts) = true
is_item (Kind.Filter field text) = true
is_item (Kind.Range field text) = true
is_item _ = false

-- A word.
abbrev pub is_word : Kind → Bool
is_word (Kind.Word field text capital) = true
is_word _ = false

-- A bracket that opens.
abbrev pub is_open : Kind → Bool
is_open (Kind.Open field) = true
is_open _ = false

-- A bracket that closes.
abbrev pub is_close : Kind → Bool
is_close Kind.Close = true
is_close _ = false

-- A mark.
abbrev pub is_mark : Kind → Bool
is_mark Kind.Plus = true
is_mark Kind.Minus = true
is_mark _ = false

-- NOT.
abbrev pub is_not : Kind → Bool
is_not Kind.Not = true
is_not _ = false

-- AND, OR or XOR.
abbrev pub is_joining : Kind → Bool
is_joining Kind.And = true
is_joining Kind.Or = true
is_joining Kind.Xor = true
is_joining _ = false

-- NEAR.
abbrev pub is_near_sign : Kind → Bool
is_near_sign (Kind.Near n) = true
is_near_sign _ = false

-- ADJ.
abbrev pub is_adj_sign : Kind → Bool
is_adj_sign (Kind.Adj n) = true
is_adj_sign _ = false

-- An item, or a bracket that opens.
abbrev pub begins_unit : Kind → Bool
begins_unit k = is_item k || is_open k

-- An item, or a bracket that closes.
abbrev pub ends_unit : Kind → Bool
ends_unit k = is_item k || is_close k

-- The first of these tokens is there and passes the test.
abbrev pub first_is : (Kind → Bool) → List Kind → Bool
first_is test [] = false
first_is test (k ∷ ks) = test k

-- The second of these tokens is there and passes the test.
abbrev pub second_is : (Kind → Bool) → List Kind → Bool
second_is test [] = false
second_is test (k ∷ ks) = first_is test ks

-- How many brackets are open behind a token, where so many are before it: a bracket that closes none leaves 0.
abbrev pub depth_behind : ℕ → Kind → ℕ
depth_behind depth (Kind.Open field) = suc depth
depth_behind depth Kind.Close = pred depth
depth_behind depth _ = depth

-- How many brackets are open behind these tokens, the last of which stands first.
abbrev pub brackets_at : List Kind → ℕ
brackets_at [] = 0
brackets_at (k ∷ before) = depth_behind (brackets_at before) k

-- How many leaves a token counts for: each word of an item with several, and every other item one.
abbrev pub leaves_by : Kind → ℕ
leaves_by (Kind.Joined field texts) = length texts
leaves_by (Kind.Quote field texts) = length texts
leaves_by k = if is_item k then 1 else 0

-- The leaves of these tokens.
abbrev pub leaves_among : List Kind → ℕ
leaves_among [] = 0
leaves_among (k ∷ ks) = leaves_by k + leaves_among ks

-- A bracket that closes, where none is open before it.
abbrev pub is_stray : List Kind → Kind → Bool
is_stray before k = is_close k && brackets_at before == 0

-- Whether the depth, being `now` before these tokens, is `wanted` behind some of them.
abbrev pub comes_to : ℕ → ℕ → List Kind → Bool
comes_to wanted now [] = false
comes_to wanted now (k ∷ ks) = depth_behind now k == wanted || comes_to wanted (depth_behind now k) ks

-- A bracket that opens, behind which the depth never comes back to the depth before it.
abbrev pub is_unclosed : List Kind → Kind → List Kind → Bool
is_unclosed before k behind = is_open k && not (comes_to (brackets_at before) (suc (brackets_at before)) behind)

-- AND, OR or XOR stands behind a unit, and before one, a mark or NOT.
abbrev pub lacks_side : List Kind → Kind → List Kind → Bool
lacks_side before k behind =
    is_joining k && (not (first_is ends_unit before) || not (first_is (λ next. begins_unit next || is_mark next || is_not next) behind))

-- NOT stands before a unit or a mark.
abbrev pub lacks_excluded : Kind → List Kind → Bool
lacks_excluded k behind = is_not k && not (first_is (λ next. begins_unit next || is_mark next) behind)

-- A mark stands before a unit.
abbrev pub lacks_marked : Kind → List Kind → Bool
lacks_marked k behind = is_mark k && not (first_is begins_unit behind)

-- One of these has nothing to work on.
abbrev pub lacks_operand : List Kind → Kind → List Kind → Bool
lacks_operand before k behind = lacks_side before k behind || lacks_excluded k behind || lacks_marked k behind

-- A distance is 1 to 10,000.
abbrev pub is_distance : ℕ → Bool
is_distance n = nat_le 1 n && nat_le n 10000

-- A word stands on each side.
abbrev pub is_between : List Kind → List Kind → Bool
is_between before behind = first_is is_word before && first_is is_word behind

-- NEAR and ADJ stand between two words, with a distance, and a chain has one of them alone.
abbrev pub is_bad_near : List Kind → Kind → List Kind → Bool
is_bad_near before (Kind.Near n) behind = not (is_between before behind) || not (is_distance n) || second_is is_adj_sign before
is_bad_near before (Kind.Adj n) behind = not (is_between before behind) || not (is_distance n) || second_is is_near_sign before
is_bad_near before _ behind = false

-- A field of numbers.
abbrev pub takes_numbers : Option Field → Bool
takes_numbers None = false
takes_numbers (Some field) = is_number_kind (Field.kind field)

-- A range on a field of numbers has a bound that is no number.
abbrev pub is_bad_range : Schema → Kind → Bool
is_bad_range schema (Kind.Range f text) = takes_numbers (slice_get schema.fields f) && not (are_numbers (halves text))
is_bad_range schema _ = false

-- A bracket opens, and 100 are open already.
abbrev pub is_too_deep : List Kind → Kind → Bool
is_too_deep before k = is_open k && nat_le 100 (brackets_at before)

-- An item with which there are more than 1,024 leaves, and without which there are not.
abbrev pub is_too_many : List Kind → Kind → Bool
is_too_many before k = is_item k && nat_le (leaves_among before) 1024 && nat_lt 1024 (leaves_among before + leaves_by k)

-- The fault of a token: the first of these that it has.
abbrev pub fault_at : Schema → List Kind → Kind → List Kind → Option FaultKind
fault_at schema before k behind =
    if is_stray before k then Some FaultKind.StrayBracket
    else (if is_unclosed before k behind then Some FaultKind.UnclosedBracket
    else (if lacks_operand before k behind then Some FaultKind.MissingOperand
    else (if is_bad_near before k behind then Some FaultKind.BadNear
    else (if is_bad_range schema k then Some FaultKind.BadRange
    else (if is_too_deep before k then Some FaultKind.TooDeep
    else (if is_too_many before k then Some FaultKind.TooMany
    else None))))))

-- The kinds of tokens.
abbrev pub kinds_of : List Token → List Kind
kinds_of ts = map Token.kind ts

-- The fault of a token with its place, or else a later one.
abbrev pub fault_or : Option FaultKind → ℕ → Option (FaultKind × ℕ) → Option (FaultKind × ℕ)
fault_or None place later = later
fault_or (Some fault) place later = Some (fault, place)

-- The first fault in tokens behind others, the last of which stands first, with the byte of its token.
abbrev pub fault_behind : Schema → List Kind → List Token → Option (FaultKind × ℕ)
fault_behind schema before [] = None
fault_behind schema before (t ∷ ts) =
    fault_or (fault_at schema before (Token.kind t) (kinds_of ts)) (Token.from t) (fault_behind schema (Token.kind t ∷ before) ts)

-- The first fault of tokens with its byte; none where they are a query.
abbrev pub fault_in : Schema → List Token → Option (FaultKind × ℕ)
fault_in schema tokens = fault_behind schema [] tokens
