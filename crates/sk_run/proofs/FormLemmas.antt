-- A number of digits that the library does not read is too great for a demonstration.
use Rattle.std.proofs.Common.{◌≡◌, ◌<◌, ◌^◌, ℕ, true, false, ◌==◌, not, nat_le, if◌then◌else◌, List, [], ◌∷◌, length, Some, None, Result, Err, sym, ap, subst, arith, rules}
use Rattle.std.proofs.lemmas.Bool.Decides.{nat_tests}
use Rattle.std.proofs.lemmas.Str.Parse.{IsNumeralModel, numerals_by_value, parse_digits}
use Rattle.std.specs.Result.{OkIff}
use Rattle.std.specs.Str.Parse.{ParsesUnsigned, digits_value}
use Rattle.std.specs.List.{list_all}
use Rattle.std.specs.Char.{is_ascii_digit}
use Rattle.sk_base.proofs.Tests.{second_so}
use Rattle.sk_run.specs.declared.form.Form.{Form}
use Rattle.sk_run.specs.Forms.{is_size, demo_of}

own : IsNumeralModel (λ ds. list_all is_ascii_digit ds ≡ true) (digits_value 10)
own = numerals_by_value _ (search rules)

all_digits : (bs : List ℕ) → is_size bs ≡ true → list_all is_ascii_digit bs ≡ true
all_digits [] e = cc
all_digits (b ∷ bs) e = second_so (not (b == 48)) (list_all is_ascii_digit (b ∷ bs)) e

some_digits : (bs : List ℕ) → is_size bs ≡ true → 0 < length bs
some_digits [] e = cc
some_digits (b ∷ bs) e = omega arith

too_great : (n : ℕ) → (n < 2 ^ 32 → ⊥) → nat_le n 200000 ≡ false
too_great n h = elim (nat_le n 200000) as (λ b. nat_le n 200000 ≡ b → b ≡ false) [
  | true ↦ λ e. absurd (h (grind (arith, nat_tests)))
  | false ↦ λ e. Rattle.std.proofs.Common.refl
] Rattle.std.proofs.Common.refl

pub too_many : {E : Type 0} (bs : List ℕ) (r : Result ℕ E) (e : E) → ParsesUnsigned 32 10 bs r → is_size bs ≡ true → r ≡ Err e → None ≡ demo_of (digits_value 10 bs)
too_many {E} bs r e h size is =
    let cases : OkIff r ((0 < length bs) × (digits_value 10 bs < 2 ^ 32)) (digits_value 10 bs) = parse_digits own 32 bs r h (all_digits bs size) in
    let none : OkIff {E = E} (Err e) ((0 < length bs) × (digits_value 10 bs < 2 ^ 32)) (digits_value 10 bs) =
    subst (λ (x : Result ℕ E). OkIff x ((0 < length bs) × (digits_value 10 bs < 2 ^ 32)) (digits_value 10 bs)) is cases in
    let great : nat_le (digits_value 10 bs) 200000 ≡ false = too_great (digits_value 10 bs) (λ below. none (some_digits bs size, below)) in
    sym (ap (λ b. if b then Some (Form.Demo (digits_value 10 bs)) else None) great)
