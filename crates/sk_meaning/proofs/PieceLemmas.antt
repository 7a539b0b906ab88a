-- The words of each piece are not empty, and a filter's prefix is not.
use Rattle.std.proofs.Common.{◌≡◌, ℕ, zero, suc, ◌+◌, Bool, true, false, ◌&&◌, ◌==◌, not, if◌then◌else◌, List, [], ◌∷◌, encode_utf8_all, length, take, drop, Option, Some, None, IfSome, option_map, unwrap_or, bytes_eq, nat_eq, codes, refl, ap, ◌∙◌, arith}
use Rattle.std.proofs.lemmas.Bool.Decides.{nat_tests}
use Rattle.std.specs.List.{list_all, prefix_len, slice_get, starts_with}
use Rattle.std.specs.Option.{option_and_then}
use Rattle.std.specs.Char.{is_whitespace}
use Rattle.sk_base.proofs.Tests.{first_so}
use Rattle.sk_base.specs.declared.schema.Field.{Field}
use Rattle.sk_base.specs.declared.schema.Schema.{Schema}
use Rattle.sk_base.specs.declared.schema.FieldKind.{FieldKind}
use Rattle.sk_base.specs.Names.{is_name, is_name_byte, is_prefix}
use Rattle.sk_base.specs.Fields.{is_kind, is_field, place_of}
use Rattle.sk_text.specs.Characters.{is_word_char}
use Rattle.sk_base.specs.Terms.{is_given}
use Rattle.sk_grammar.specs.declared.token.Kind.{Kind}
use Rattle.sk_grammar.specs.Characters.{begins_capital, group_len, inner, is_good, runs_on, run_terms}
use Rattle.sk_grammar.specs.Pieces.{Piece, token_piece, lengthened, quote_piece, is_starred, is_one, first_term, distance, distant, operator_of, words_kind, group_kind, group_of_len, group_piece, text_piece, filter_piece, range_piece, value_piece, colon_piece, field_piece, mark_piece, takes_mark, is_marked, last_piece, piece_at}
use Rattle.sk_base.specs.Fields.{kind_prefix}
use Rattle.sk_grammar.specs.Parts.{prefix_of}
use Rattle.sk_meaning.proofs.TermLemmas.{terms_given}

-- The words of a token are not empty, and the prefix of a filter's field is not.
abbrev pub is_filled : Schema → Kind → Bool
is_filled schema (Kind.Word field t capital) = is_given t
is_filled schema (Kind.Wild field t) = is_given t
is_filled schema (Kind.Joined field ts) = list_all is_given ts
is_filled schema (Kind.Quote field ts) = list_all is_given ts
is_filled schema (Kind.Filter f text) = is_given (prefix_of (slice_get schema.fields f))
is_filled schema _ = true

-- It is so of the token that there may be.
abbrev pub KindFilled : Schema → Option Kind → Type 0
KindFilled schema o = IfSome o (λ k. is_filled schema k ≡ true)

abbrev pub PieceFilled : Schema → Piece → Type 0
PieceFilled schema p = KindFilled schema p.kind

abbrev OneFilled : Schema → Option Piece → Type 0
OneFilled schema o = IfSome o (PieceFilled schema)

-- Whichever of two is taken.
if_kind : (schema : Schema) (b : Bool) (o p : Option Kind) → KindFilled schema o → KindFilled schema p → KindFilled schema (if b then o else p)
if_kind schema true o p f g = f
if_kind schema false o p f g = g

if_piece : (schema : Schema) (b : Bool) (p q : Piece) → (b ≡ true → PieceFilled schema p) → (b ≡ false → PieceFilled schema q) → PieceFilled schema (if b then p else q)
if_piece schema true p q f g = f refl
if_piece schema false p q f g = g refl

if_one : (schema : Schema) (b : Bool) (p q : Option Piece) → (b ≡ true → OneFilled schema p) → (b ≡ false → OneFilled schema q) → OneFilled schema (if b then p else q)
if_one schema true p q f g = f refl
if_one schema false p q f g = g refl

or_piece : (schema : Schema) (o : Option Piece) (p : Piece) → OneFilled schema o → PieceFilled schema p → PieceFilled schema (unwrap_or o p)
or_piece schema None p f g = g
or_piece schema (Some q) p f g = f

longer_filled : (schema : Schema) (n : ℕ) (o : Option Piece) → OneFilled schema o → OneFilled schema (option_map (lengthened n) o)
longer_filled schema n None f = tt
longer_filled schema n (Some p) f = f

-- The first of several.
first_given : (ts : List (List ℕ)) → list_all is_given ts ≡ true → is_one ts ≡ true → is_given (first_term ts) ≡ true
first_given [] e f = absurd (cc)
first_given (t ∷ []) e f = first_so (is_given t) true e
first_given (t ∷ u ∷ ts) e f = absurd (cc)

-- An operator has no words.
near_filled : (schema : Schema) (o : Option ℕ) → KindFilled schema (option_map Kind.Near o)
near_filled schema None = tt
near_filled schema (Some n) = refl

adj_filled : (schema : Schema) (o : Option ℕ) → KindFilled schema (option_map Kind.Adj o)
adj_filled schema None = tt
adj_filled schema (Some n) = refl

distant_filled : (schema : Schema) (text : List ℕ) → KindFilled schema (distant text)
distant_filled schema text =
    if_kind schema (starts_with nat_eq text (codes "NEAR/")) _ _ (near_filled schema (distance (drop 5 text)))
    (if_kind schema (starts_with nat_eq text (codes "ADJ/")) _ _ (adj_filled schema (distance (drop 4 text))) tt)

operator_filled : (schema : Schema) (text : List ℕ) → KindFilled schema (operator_of text)
operator_filled schema text =
    if_kind schema (bytes_eq text (codes "AND")) _ _ refl
    (if_kind schema (bytes_eq text (codes "OR")) _ _ refl
    (if_kind schema (bytes_eq text (codes "XOR")) _ _ refl
    (if_kind schema (bytes_eq text (codes "NOT")) _ _ refl
    (if_kind schema (bytes_eq text (codes "NEAR")) _ _ refl
    (if_kind schema (bytes_eq text (codes "ADJ")) _ _ refl (distant_filled schema text))))))

or_kind : (schema : Schema) (o : Option Kind) (k : Kind) → KindFilled schema o → is_filled schema k ≡ true → is_filled schema (unwrap_or o k) ≡ true
or_kind schema None k f g = g
or_kind schema (Some l) k f g = f

-- A group's token.
words_filled : (schema : Schema) (field : Option ℕ) (capital : Bool) (ts : List (List ℕ)) → list_all is_given ts ≡ true → is_filled schema (words_kind field capital ts) ≡ true
words_filled schema field capital ts e = by (is_one ts) refl
  where
    by : (b : Bool) → is_one ts ≡ b → is_filled schema (if b then Kind.Word field (first_term ts) capital else Kind.Joined field ts) ≡ true
    by true f = first_given ts e f
    by false f = e

group_kind_filled : (schema : Schema) (field : Option ℕ) (text : List ℕ) (capital : Bool) (ts : List (List ℕ)) → list_all is_given ts ≡ true → is_filled schema (group_kind field text capital ts) ≡ true
group_kind_filled schema None text capital ts e = or_kind schema (operator_of text) (words_kind None capital ts) (operator_filled schema text) (words_filled schema None capital ts e)
group_kind_filled schema (Some f) text capital ts e = words_filled schema (Some f) capital ts e

of_len_filled : (schema : Schema) (field : Option ℕ) (n : ℕ) (cs : List ℕ) → PieceFilled schema (group_of_len field n cs)
of_len_filled schema field n cs =
    if_piece schema (is_one (run_terms (take n cs)) && is_starred (drop n cs)) (token_piece (Kind.Wild field (first_term (run_terms (take n cs)))) (n + 1))
    (token_piece (group_kind field (encode_utf8_all (take n cs)) (begins_capital cs) (run_terms (take n cs))) n)
    (λ e. first_given (run_terms (take n cs)) (terms_given (take n cs)) (first_so (is_one (run_terms (take n cs))) (is_starred (drop n cs)) e))
    (λ _. group_kind_filled schema field (encode_utf8_all (take n cs)) (begins_capital cs) (run_terms (take n cs)) (terms_given (take n cs)))

group_filled : (schema : Schema) (field : Option ℕ) (cs : List ℕ) → PieceFilled schema (group_piece field cs)
group_filled schema field cs = of_len_filled schema field (group_len false cs) cs

quote_filled : (schema : Schema) (field : Option ℕ) (cs : List ℕ) → PieceFilled schema (quote_piece field cs)
quote_filled schema field cs = terms_given (inner cs)

-- Behind the colon of a field.
text_filled : (schema : Schema) (f : ℕ) (cs : List ℕ) → OneFilled schema (text_piece f cs)
text_filled schema f [] = tt
text_filled schema f (c ∷ cs) =
    if_one schema (is_word_char c) _ _ (λ _. group_filled schema (Some f) (c ∷ cs)) (λ _.
    if_one schema (c == 34 && is_good cs) _ _ (λ _. quote_filled schema (Some f) cs) (λ _.
    if_one schema (c == 40) _ _ (λ _. refl) (λ _. tt)))

filter_filled : (schema : Schema) (f : ℕ) (cs : List ℕ) → is_given (prefix_of (slice_get schema.fields f)) ≡ true → OneFilled schema (filter_piece f cs)
filter_filled schema f [] e = tt
filter_filled schema f (c ∷ cs) e =
    if_one schema (c == 34) _ _ (λ _. e) (λ _.
    if_one schema (runs_on c) _ _ (λ _. e) (λ _. tt))

range_filled : (schema : Schema) (f : ℕ) (cs : List ℕ) → OneFilled schema (range_piece f cs)
range_filled schema f [] = tt
range_filled schema f (c ∷ cs) = if_one schema (runs_on c) _ _ (λ _. refl) (λ _. tt)

-- The prefix of a filter's field.
filter_given : (prefix : List ℕ) → is_kind (FieldKind.Filter prefix) ≡ true → is_given prefix ≡ true
filter_given prefix e = let some : not (length prefix == 0) ≡ true = first_so (not (length prefix == 0)) (is_prefix prefix) e in grind (arith, nat_tests)

value_filled : (schema : Schema) (f : ℕ) (kind : FieldKind) (cs : List ℕ) → is_kind kind ≡ true → prefix_of (slice_get schema.fields f) ≡ kind_prefix kind
    → OneFilled schema (value_piece f kind cs)
value_filled schema f (FieldKind.Text prefix step) cs e g = text_filled schema f cs
value_filled schema f (FieldKind.Filter prefix) cs e g = filter_filled schema f cs (ap is_given g ∙ filter_given prefix e)
value_filled schema f (FieldKind.Number slot) cs e g = range_filled schema f cs
value_filled schema f (FieldKind.Word slot) cs e g = range_filled schema f cs

-- The field at a place keeps its rules, where each does.
pub field_sound : (fields : List Field) (f : ℕ) → list_all is_field fields ≡ true → IfSome (slice_get fields f) (λ field. is_field field ≡ true)
field_sound [] f e = tt
field_sound (field ∷ fields) zero e = first_so (is_field field) (list_all is_field fields) e
field_sound (field ∷ fields) (suc f) e = field_sound fields f (last (is_field field) (list_all is_field fields) e)
  where
    last : (a b : Bool) → (a && b) ≡ true → b ≡ true
    last true b h = h
    last false b h = absurd (cc)

pub kind_sound : (field : Field) → is_field field ≡ true → is_kind (Field.kind field) ≡ true
kind_sound field e = last (is_name (Field.name field)) (is_kind (Field.kind field)) e
  where
    last : (a b : Bool) → (a && b) ≡ true → b ≡ true
    last true b h = h
    last false b h = absurd (cc)

-- The value of a field, if there is one.
found_filled : (schema : Schema) (f : ℕ) (o : Option Field) (cs : List ℕ) → slice_get schema.fields f ≡ o → IfSome o (λ field. is_field field ≡ true)
    → OneFilled schema (option_and_then (λ field. value_piece f (Field.kind field) cs) o)
found_filled schema f None cs e sound = tt
found_filled schema f (Some field) cs e sound = value_filled schema f (Field.kind field) cs (kind_sound field sound) (ap prefix_of e)

colon_filled : (schema : Schema) (f : ℕ) (cs : List ℕ) → list_all is_field schema.fields ≡ true → OneFilled schema (colon_piece schema f cs)
colon_filled schema f [] sound = tt
colon_filled schema f (c ∷ cs) sound =
    if_one schema (c == 58) _ _ (λ _. longer_filled schema 1 _ (found_filled schema f (slice_get schema.fields f) cs refl (field_sound schema.fields f sound))) (λ _. tt)

named_filled : (schema : Schema) (o : Option ℕ) (cs : List ℕ) → list_all is_field schema.fields ≡ true → OneFilled schema (option_and_then (λ f. colon_piece schema f cs) o)
named_filled schema None cs sound = tt
named_filled schema (Some f) cs sound = colon_filled schema f cs sound

field_filled : (schema : Schema) (cs : List ℕ) → list_all is_field schema.fields ≡ true → OneFilled schema (field_piece schema cs)
field_filled schema cs sound =
    let n : ℕ = prefix_len is_name_byte cs in
    longer_filled schema n (option_and_then (λ f. colon_piece schema f (drop n cs)) (place_of (encode_utf8_all (take n cs)) schema.fields))
    (named_filled schema (place_of (encode_utf8_all (take n cs)) schema.fields) (drop n cs) sound)

mark_filled : (schema : Schema) (previous : Option ℕ) (c : ℕ) (cs : List ℕ) → OneFilled schema (mark_piece previous c cs)
mark_filled schema previous c cs =
    if_one schema (takes_mark previous && is_marked cs) _ _ (λ _.
    if_one schema (c == 43) _ _ (λ _. refl) (λ _.
    if_one schema (c == 45) _ _ (λ _. refl) (λ _. tt))) (λ _. tt)

last_filled : (schema : Schema) (c : ℕ) (cs : List ℕ) → PieceFilled schema (last_piece c cs)
last_filled schema c cs = if_piece schema (is_word_char c) _ _ (λ _. group_filled schema None (c ∷ cs)) (λ _. tt)

-- The piece at a place.
pub piece_filled : (schema : Schema) (previous : Option ℕ) (c : ℕ) (cs : List ℕ) → list_all is_field schema.fields ≡ true → PieceFilled schema (piece_at schema previous c cs)
piece_filled schema previous c cs sound =
    if_piece schema (is_whitespace c) _ _ (λ _. tt) (λ _.
    if_piece schema (c == 34) _ _ (λ _.
    if_piece schema (is_good cs) _ _ (λ _. quote_filled schema None cs) (λ _. tt)) (λ _.
    if_piece schema (c == 40) _ _ (λ _. refl) (λ _.
    if_piece schema (c == 41) _ _ (λ _. refl) (λ _.
    or_piece schema (mark_piece previous c cs) _ (mark_filled schema previous c cs)
    (or_piece schema (field_piece schema (c ∷ cs)) _ (field_filled schema (c ∷ cs) sound) (last_filled schema c cs))))))
