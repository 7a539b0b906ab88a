-- The distance that digits say.
use Rattle.std.proofs.Common.{◌≡◌, ℕ, ◌+◌, ◌-◌, ◌*◌, min, true, false, ◌&&◌, if◌then◌else◌, List, [], ◌∷◌, Some, None, refl, ap, ◌∙◌, arith}
use Rattle.std.proofs.lemmas.Bool.Decides.{nat_tests}
use Rattle.std.proofs.lemmas.Str.{digit_value_digit}
use Rattle.std.specs.List.{list_all}
use Rattle.std.specs.Char.{is_ascii_digit, digit_value}
use Rattle.std.specs.Int.{IsInRange}
use Rattle.std.specs.Str.Parse.{digits_value_after}
use Rattle.sk_grammar.specs.Pieces.{distance}
use Rattle.sk_lexer.specs.Shown.{distance_behind}

-- The least of a number and the most, with a digit more.
digit_capped : (n b v : ℕ) → v + 48 ≡ b → min 65535 (min 65535 n * 10 + (b - 48)) ≡ min 65535 (n * 10 + v)
digit_capped n b v e = omega arith

digit_range : (b : ℕ) → is_ascii_digit b ≡ true → IsInRange 48 57 b
digit_range b e = (grind (arith, nat_tests), grind (arith, nat_tests))

pub distance_capped : (n : ℕ) (bs : List ℕ) → distance_behind (min 65535 n) bs ≡ (if list_all is_ascii_digit bs then Some (min 65535 (digits_value_after 10 n bs)) else None)
distance_capped n [] = refl
distance_capped n (b ∷ bs) =
    elim (is_ascii_digit b) as (λ t. is_ascii_digit b ≡ t → (if t then distance_behind (min 65535 (min 65535 n * 10 + (b - 48))) bs else None)
    ≡ (if t && list_all is_ascii_digit bs then Some (min 65535 (digits_value_after 10 (n * 10 + digit_value b) bs)) else None)) [
      | true ↦ λ e. ap (λ m. distance_behind m bs) (digit_capped n b (digit_value b) (digit_value_digit b (digit_range b e))) ∙ distance_capped (n * 10 + digit_value b) bs
      | false ↦ λ e. refl
    ] refl

pub distance_is : (bs : List ℕ) → distance_behind 0 bs ≡ distance bs
distance_is bs = distance_capped 0 bs
