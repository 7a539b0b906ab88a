-- Each piece has a character at least, and no more than there are.
use Rattle.std.proofs.Common.{◌≡◌, ◌≤◌, ℕ, zero, suc, ◌+◌, ◌-◌, Bool, true, false, ◌&&◌, ◌==◌, if◌then◌else◌, List, [], ◌∷◌, encode_utf8_all, length, take, drop, Option, Some, None, IfSome, option_map, unwrap_or, refl, arith, length-drop}
use Rattle.std.proofs.lemmas.List.Sums.{prefix_len-le-length}
use Rattle.std.specs.List.{prefix_len, slice_get}
use Rattle.std.specs.Option.{option_and_then}
use Rattle.std.specs.Char.{is_whitespace}
use Rattle.sk_base.proofs.Tests.{second_so}
use Rattle.sk_base.specs.declared.schema.Field.{Field}
use Rattle.sk_base.specs.declared.schema.Schema.{Schema}
use Rattle.sk_base.specs.declared.schema.FieldKind.{FieldKind}
use Rattle.sk_base.specs.Names.{is_name_byte}
use Rattle.sk_base.specs.Fields.{place_of}
use Rattle.sk_text.specs.Characters.{is_word_char, belongs}
use Rattle.sk_grammar.specs.declared.token.Kind.{Kind}
use Rattle.sk_grammar.specs.Characters.{begins_capital, is_joiner, past_joiner, group_len, quote_len, is_good, runs_on, run_len, run_terms}
use Rattle.sk_grammar.specs.Pieces.{Piece, token_piece, lengthened, is_starred, is_one, first_term, group_kind, group_of_len, group_piece, text_piece, filter_piece, range_piece, value_piece, colon_piece, field_piece, mark_piece, takes_mark, is_marked, last_piece, piece_at}

-- The piece has a character at least, and no more than so many.
pub record Takes (n : ℕ) (p : Piece) : Type 0 where
  pub some : 1 ≤ p.size
  pub whole : p.size ≤ n

-- Whichever of two pieces is taken.
if_takes : (n : ℕ) (b : Bool) (p q : Piece) → (b ≡ true → Takes n p) → (b ≡ false → Takes n q) → Takes n (if b then p else q)
if_takes n true p q f g = f refl
if_takes n false p q f g = g refl

-- Whichever of two pieces is taken, if any.
if_some : (n : ℕ) (b : Bool) (p q : Option Piece) → (b ≡ true → IfSome p (Takes n)) → (b ≡ false → IfSome q (Takes n)) → IfSome (if b then p else q) (Takes n)
if_some n true p q f g = f refl
if_some n false p q f g = g refl

-- A piece, or else another.
or_takes : (n : ℕ) (o : Option Piece) (p : Piece) → IfSome o (Takes n) → Takes n p → Takes n (unwrap_or o p)
or_takes n None p f g = g
or_takes n (Some q) p f g = f

-- A piece with characters more in front.
longer_takes : (n m : ℕ) (o : Option Piece) → IfSome o (Takes n) → IfSome (option_map (lengthened m) o) (Takes (m + n))
longer_takes n m None f = tt
longer_takes n m (Some p) f = let some = f.some in let whole = f.whole in record { some = omega arith; whole = omega arith }

more_takes : (o : Option Piece) (n m k : ℕ) → n + m ≡ k → IfSome o (Takes m) → IfSome (option_map (lengthened n) o) (Takes k)
more_takes o n m k e f = rw (← e) (longer_takes m n o f)

-- A quote.
pub quote_fits : (cs : List ℕ) → (1 ≤ quote_len cs) × (quote_len cs ≤ suc (length cs))
quote_fits cs = (omega arith, omega arith)

-- A group is no longer than what is left.
past_fits : (n m : ℕ) → n ≤ m → past_joiner n ≤ suc m
past_fits zero m h = omega arith
past_fits (suc n) m h = omega arith

step_fits : (b d : Bool) (n m : ℕ) → n ≤ m → (if b then suc n else (if d then past_joiner n else 0)) ≤ suc m
step_fits true d n m h = omega arith
step_fits false true n m h = past_fits n m h
step_fits false false n m h = omega arith

pub group_fits : (after : Bool) (cs : List ℕ) → group_len after cs ≤ length cs
group_fits after [] = omega arith
group_fits after (c ∷ cs) = step_fits (belongs after c cs) (is_joiner c) (group_len (is_word_char c) cs) (length cs) (group_fits (is_word_char c) cs)

-- A group that begins with a word character has one.
pub group_some : (c : ℕ) (cs : List ℕ) → is_word_char c ≡ true → 1 ≤ group_len false (c ∷ cs)
group_some c cs e = rw e (omega arith)

-- What a star begins is not empty.
starred_some : (cs : List ℕ) → is_starred cs ≡ true → 1 ≤ length cs
starred_some [] e = absurd (cc)
starred_some (c ∷ cs) e = omega arith

-- The star stands within what is left.
star_within : (n m k : ℕ) → 1 ≤ k → k ≡ m - n → n + 1 ≤ m
star_within n m k some e = omega arith

of_len_takes : (field : Option ℕ) (n : ℕ) (cs : List ℕ) → 1 ≤ n → n ≤ length cs → Takes (length cs) (group_of_len field n cs)
of_len_takes field n cs some whole =
    if_takes (length cs) (is_one (run_terms (take n cs)) && is_starred (drop n cs)) (token_piece (Kind.Wild field (first_term (run_terms (take n cs)))) (n + 1)) (token_piece (group_kind field (encode_utf8_all (take n cs)) (begins_capital cs) (run_terms (take n cs))) n)
    (λ e. record { some = omega arith; whole = star_within n (length cs) (length (drop n cs)) (starred_some (drop n cs) (second_so (is_one (run_terms (take n cs))) (is_starred (drop n cs)) e)) (length-drop n cs) })
    (λ e. record { some = some; whole = whole })

group_takes : (field : Option ℕ) (c : ℕ) (cs : List ℕ) → is_word_char c ≡ true → Takes (suc (length cs)) (group_piece field (c ∷ cs))
group_takes field c cs e = of_len_takes field (group_len false (c ∷ cs)) (c ∷ cs) (group_some c cs e) (group_fits false (c ∷ cs))

-- A run that begins with a character that runs on.
run_takes : (k : Kind) (c : ℕ) (cs : List ℕ) → runs_on c ≡ true → Takes (suc (length cs)) (token_piece k (run_len (c ∷ cs)))
run_takes k c cs e = let whole = prefix_len-le-length runs_on cs in rw e (record { some = omega arith; whole = omega arith })

text_takes : (f : ℕ) (cs : List ℕ) → IfSome (text_piece f cs) (Takes (length cs))
text_takes f [] = tt
text_takes f (c ∷ cs) =
    if_some (suc (length cs)) (is_word_char c) _ _ (λ e. group_takes (Some f) c cs e) (λ _.
    if_some (suc (length cs)) (c == 34 && is_good cs) _ _ (λ _. record { some = (quote_fits cs).0; whole = (quote_fits cs).1 }) (λ _.
    if_some (suc (length cs)) (c == 40) _ _ (λ _. record { some = omega arith; whole = omega arith }) (λ _. tt)))

filter_takes : (f : ℕ) (cs : List ℕ) → IfSome (filter_piece f cs) (Takes (length cs))
filter_takes f [] = tt
filter_takes f (c ∷ cs) =
    if_some (suc (length cs)) (c == 34) _ _ (λ _. record { some = (quote_fits cs).0; whole = (quote_fits cs).1 }) (λ _.
    if_some (suc (length cs)) (runs_on c) _ _ (λ e. run_takes _ c cs e) (λ _. tt))

range_takes : (f : ℕ) (cs : List ℕ) → IfSome (range_piece f cs) (Takes (length cs))
range_takes f [] = tt
range_takes f (c ∷ cs) = if_some (suc (length cs)) (runs_on c) _ _ (λ e. run_takes _ c cs e) (λ _. tt)

pub value_takes : (f : ℕ) (kind : FieldKind) (cs : List ℕ) → IfSome (value_piece f kind cs) (Takes (length cs))
value_takes f (FieldKind.Text prefix step) cs = text_takes f cs
value_takes f (FieldKind.Filter prefix) cs = filter_takes f cs
value_takes f (FieldKind.Number slot) cs = range_takes f cs
value_takes f (FieldKind.Word slot) cs = range_takes f cs

-- The value of a field, if there is one.
pub field_value_takes : (f : ℕ) (o : Option Field) (cs : List ℕ) → IfSome (option_and_then (λ field. value_piece f (Field.kind field) cs) o) (Takes (length cs))
field_value_takes f None cs = tt
field_value_takes f (Some field) cs = value_takes f (Field.kind field) cs

pub colon_takes : (schema : Schema) (f : ℕ) (cs : List ℕ) → IfSome (colon_piece schema f cs) (Takes (length cs))
colon_takes schema f [] = tt
colon_takes schema f (c ∷ cs) =
    if_some (suc (length cs)) (c == 58) _ _ (λ _. more_takes _ 1 (length cs) (suc (length cs)) (omega arith) (field_value_takes f (slice_get schema.fields f) cs)) (λ _. tt)

-- The piece behind a name, if it is a field's.
named_takes : (schema : Schema) (o : Option ℕ) (cs : List ℕ) → IfSome (option_and_then (λ f. colon_piece schema f cs) o) (Takes (length cs))
named_takes schema None cs = tt
named_takes schema (Some f) cs = colon_takes schema f cs

field_takes : (schema : Schema) (cs : List ℕ) → IfSome (field_piece schema cs) (Takes (length cs))
field_takes schema cs =
    let n : ℕ = prefix_len is_name_byte cs in
    let whole : n ≤ length cs = prefix_len-le-length is_name_byte cs in
    let rest : length (drop n cs) ≡ length cs - n = length-drop n cs in
    more_takes (option_and_then (λ f. colon_piece schema f (drop n cs)) (place_of (encode_utf8_all (take n cs)) schema.fields)) n (length (drop n cs)) (length cs) (omega arith)
    (named_takes schema (place_of (encode_utf8_all (take n cs)) schema.fields) (drop n cs))

mark_takes : (previous : Option ℕ) (c : ℕ) (cs : List ℕ) → IfSome (mark_piece previous c cs) (Takes (suc (length cs)))
mark_takes previous c cs =
    if_some (suc (length cs)) (takes_mark previous && is_marked cs) _ _ (λ _.
    if_some (suc (length cs)) (c == 43) _ _ (λ _. record { some = omega arith; whole = omega arith }) (λ _.
    if_some (suc (length cs)) (c == 45) _ _ (λ _. record { some = omega arith; whole = omega arith }) (λ _. tt))) (λ _. tt)

one_takes : (n : ℕ) (k : Option Kind) → Takes (suc n) (record { kind = k; size = 1 })
one_takes n k = record { some = omega arith; whole = omega arith }

last_takes : (c : ℕ) (cs : List ℕ) → Takes (suc (length cs)) (last_piece c cs)
last_takes c cs = if_takes (suc (length cs)) (is_word_char c) _ _ (λ e. group_takes None c cs e) (λ _. one_takes (length cs) None)

-- The piece at a place has the character there, and no more than there are.
pub piece_takes : (schema : Schema) (previous : Option ℕ) (c : ℕ) (cs : List ℕ) → Takes (suc (length cs)) (piece_at schema previous c cs)
piece_takes schema previous c cs =
    if_takes (suc (length cs)) (is_whitespace c) _ _ (λ _. one_takes (length cs) None) (λ _.
    if_takes (suc (length cs)) (c == 34) _ _ (λ _.
    if_takes (suc (length cs)) (is_good cs) _ _ (λ _. record { some = (quote_fits cs).0; whole = (quote_fits cs).1 }) (λ _. record { some = (quote_fits cs).0; whole = (quote_fits cs).1 })) (λ _.
    if_takes (suc (length cs)) (c == 40) _ _ (λ _. one_takes (length cs) (Some (Kind.Open None))) (λ _.
    if_takes (suc (length cs)) (c == 41) _ _ (λ _. one_takes (length cs) (Some Kind.Close)) (λ _.
    or_takes (suc (length cs)) (mark_piece previous c cs) _ (mark_takes previous c cs) (or_takes (suc (length cs)) (field_piece schema (c ∷ cs)) _ (field_takes schema (c ∷ cs)) (last_takes c cs))))))
