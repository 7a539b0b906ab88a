-- The bounds of a range, as the library's calls find them.
use Rattle.std.proofs.Common.{◌≡◌, ◌≢◌, ◌≤◌, ◌<◌, ℕ, zero, suc, ◌+◌, ◌^◌, Bool, true, false, ◌&&◌, ◌||◌, ◌==◌, if◌then◌else◌, nat_lt, List, [], ◌∷◌, ◌++◌, length, take, drop, Option, Some, None, Result, Ok, Err, is_ok, refl, sym, ap, ◌∙◌, subst, arith, rules}
use Rattle.std.proofs.lemmas.Bool.Decides.{nat_tests}
use Rattle.std.proofs.lemmas.Str.Parse.{IsNumeralModel, numerals_by_value, parse_digits}
use Rattle.std.specs.Result.{OkIff}
use Rattle.std.specs.Str.Pattern.{LacksTextAt, HasTextAt}
use Rattle.std.specs.Str.Parse.{ParsesUnsigned, digits_value}
use Rattle.std.specs.List.{list_all}
use Rattle.std.specs.Char.{is_ascii_digit}
use Rattle.sk_grammar.specs.Bounds.{with_front, dots_at, at_dots, bounds_or, halves, is_number}

abbrev pub dots : List ℕ
dots = 46 ∷ 46 ∷ []

-- Where two dots do not begin, the sides are those of what follows.
passed : (b c : ℕ) (cs : List ℕ) (later : Option (List ℕ × List ℕ)) → ((rest : List ℕ) → b ∷ c ∷ cs ≢ dots ++ rest) → dots_at b (c ∷ cs) later ≡ with_front b later
passed b c cs later h =
    elim (b == 46 && c == 46) as (λ t. (b == 46 && c == 46) ≡ t → (if t then Some ([], cs) else with_front b later) ≡ with_front b later) [
      | true ↦ λ e. let first : b ≡ 46 = grind (arith, nat_tests) in let second : c ≡ 46 = grind (arith, nat_tests) in absurd (h cs (λ i. first i ∷ second i ∷ cs))
      | false ↦ λ e. refl
    ] refl

-- No text has two dots.
pub dots_none : (bs : List ℕ) → ((i : ℕ) → i ≤ length bs → LacksTextAt dots bs i) → at_dots bs ≡ None
dots_none [] h = refl
dots_none (b ∷ []) h = refl
dots_none (b ∷ c ∷ cs) h = passed b c cs (at_dots (c ∷ cs)) (h 0 (omega arith)) ∙ ap (with_front b) (dots_none (c ∷ cs) (λ i l. h (suc i) (omega arith)))

-- Two dots begin here.
begun : (b c : ℕ) (cs rest : List ℕ) (later : Option (List ℕ × List ℕ)) → b ∷ c ∷ cs ≡ dots ++ rest → dots_at b (c ∷ cs) later ≡ Some ([], cs)
begun b c cs rest later e =
    let first : b ≡ 46 = cc in
    let second : c ≡ 46 = cc in
    rw (first, second) refl

-- The first two dots begin at this place.
pub dots_some : (bs : List ℕ) (i : ℕ) → ((k : ℕ) → k < i → LacksTextAt dots bs k) → drop i bs ≡ dots ++ drop (suc (suc i)) bs
    → at_dots bs ≡ Some (take i bs, drop (suc (suc i)) bs)
dots_some [] zero h e = absurd (cc)
dots_some [] (suc i) h e = absurd (cc)
dots_some (b ∷ []) zero h e = absurd (cc)
dots_some (b ∷ []) (suc zero) h e = absurd (cc)
dots_some (b ∷ []) (suc (suc i)) h e = absurd (cc)
dots_some (b ∷ c ∷ cs) zero h e = begun b c cs cs (at_dots (c ∷ cs)) e
dots_some (b ∷ c ∷ cs) (suc i) h e =
    passed b c cs (at_dots (c ∷ cs)) (h 0 (omega arith)) ∙ ap (with_front b) (dots_some (c ∷ cs) i (λ k l. h (suc k) (omega arith)) e)

-- The bounds of a text that has two dots.
pub halves_some : (bs from to : List ℕ) (i j : ℕ) → ((k : ℕ) → k < i → LacksTextAt dots bs k) → HasTextAt dots bs i j → from ≡ take i bs → to ≡ drop j bs
    → halves bs ≡ (from, to)
halves_some bs from to i j h has e f =
    let ends : j ≡ suc (suc i) = let k : j ≡ i + 2 = has.ends in omega arith in
    let split : drop i bs ≡ dots ++ drop (suc (suc i)) bs = subst (λ (n : ℕ). drop i bs ≡ dots ++ drop n bs) ends has.split in
    let rest : drop (suc (suc i)) bs ≡ to = ap (λ (n : ℕ). drop n bs) (sym ends) ∙ sym f in
    ap (bounds_or bs) (dots_some bs i h split) ∙ (λ k. (sym e k, rest k))

-- And of one that has none.
pub halves_none : (bs : List ℕ) → ((i : ℕ) → i ≤ length bs → LacksTextAt dots bs i) → halves bs ≡ (bs, bs)
halves_none bs h = ap (bounds_or bs) (dots_none bs h)

own : IsNumeralModel (λ ds. list_all is_ascii_digit ds ≡ true) (digits_value 10)
own = numerals_by_value _ (search rules)

-- What the library reads of digits that are there.
read_is : {E : Type 0} (n m v : ℕ) (r : Result ℕ E) → OkIff r ((0 < n) × (v < m)) v → (n == 0) ≡ false → is_ok r ≡ nat_lt v m
read_is n m v (Ok x) h e = let few : v < m = h.0.1 in sym (grind (arith, nat_tests))
read_is n m v (Err x) h e = sym (not_less (λ few. h (grind (arith, nat_tests), few)))
  where
    not_less : (v < m → ⊥) → nat_lt v m ≡ false
    not_less f = elim (nat_lt v m) as (λ b. nat_lt v m ≡ b → b ≡ false) [
      | true ↦ λ e. absurd (f (grind (arith, nat_tests)))
      | false ↦ λ e. refl
    ] refl

pub number_read : {E : Type 0} (bs : List ℕ) (r : Result ℕ E) → ParsesUnsigned 64 10 bs r → list_all is_ascii_digit bs ≡ true → (length bs == 0) ≡ false → is_ok r ≡ is_number bs
number_read bs r h digits some =
    read_is (length bs) (2 ^ 64) (digits_value 10 bs) r (parse_digits own 64 bs r h digits) some
    ∙ sym (λ i. some i || (digits i && nat_lt (digits_value 10 bs) (2 ^ 64)))

first_of : (a b c : Bool) → (a || (b && c)) ≡ true → a ≡ false → b ≡ true
first_of true b c e f = absurd (cc)
first_of false true c e f = refl
first_of false false c e f = absurd (cc)

failed : {E : Type 0} (r : Result ℕ E) (x : E) (b : Bool) → is_ok r ≡ b → b ≡ true → r ≡ Err x → ⊥
failed (Ok n) x b e f g = cc
failed (Err y) x b e f g = let wrong : false ≡ true = e ∙ f in cc

-- A bound that is a number is read.
pub number_fails : {E : Type 0} (bs : List ℕ) (r : Result ℕ E) (x : E) → ParsesUnsigned 64 10 bs r → is_number bs ≡ true → (length bs ≡ 0 → ⊥) → r ≡ Err x → ⊥
number_fails bs r x h number some e =
    let none : (length bs == 0) ≡ false = grind (arith, nat_tests) in
    let digits : list_all is_ascii_digit bs ≡ true = first_of (length bs == 0) (list_all is_ascii_digit bs) (nat_lt (digits_value 10 bs) (2 ^ 64)) number none in
    failed r x (is_number bs) (number_read bs r h digits none) number e
