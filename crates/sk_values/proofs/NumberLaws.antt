-- Numbers in place of strings of eight bytes.
use Rattle.std.proofs.Common.{◌≡◌, ℕ, ◌-◌, ◌^◌, ◌&&◌, nat_le, nat_lt, List, [], ◌∷◌, length, Option, None, Some, IfSome, sym, ap, ◌∙◌, arith}
use Rattle.std.proofs.lemmas.Bool.Decides.{nat_tests}
use Rattle.std.specs.Int.{w64, from_be_bytes}
use Rattle.std.specs.Slice.Scan.{big_endian}
use Rattle.sk_model.specs.Ranges.{is_from, is_to, is_within}
use Rattle.sk_values.specs.Numbers.{IsNumber, IsLeast, IsGreatest}
use Rattle.sk_values.proofs.ByteLaws.{numbers_decide}

-- what eight bytes spell, read at once
pub eight_spell : (v : List ℕ) → length v ≡ 8 → from_be_bytes w64 v ≡ big_endian 0 v
eight_spell [] long = absurd (omega arith)
eight_spell (a ∷ []) long = absurd (omega arith)
eight_spell (a ∷ b ∷ []) long = absurd (omega arith)
eight_spell (a ∷ b ∷ c ∷ []) long = absurd (omega arith)
eight_spell (a ∷ b ∷ c ∷ d ∷ []) long = absurd (omega arith)
eight_spell (a ∷ b ∷ c ∷ d ∷ e ∷ []) long = absurd (omega arith)
eight_spell (a ∷ b ∷ c ∷ d ∷ e ∷ f ∷ []) long = absurd (omega arith)
eight_spell (a ∷ b ∷ c ∷ d ∷ e ∷ f ∷ g ∷ []) long = absurd (omega arith)
eight_spell (a ∷ b ∷ c ∷ d ∷ e ∷ f ∷ g ∷ h ∷ []) long = omega arith
eight_spell (a ∷ b ∷ c ∷ d ∷ e ∷ f ∷ g ∷ h ∷ x ∷ v) long = absurd (omega arith)

-- no number is below an open end, and none is above one
pub least-open : IsLeast None 0
least-open n v is = grind (arith, nat_tests)

pub greatest-open : IsGreatest None (2 ^ 64 - 1)
greatest-open n v is = grind (arith, nat_tests, is.fits)

-- an end of eight bytes is as good as its number
pub least-number : (n : ℕ) (lo : List ℕ) → IsNumber n lo → IsLeast (Some lo) n
least-number n lo end m v is =
    sym (numbers_decide 0 lo v (end.eight ∙ sym is.eight) end.bytes is.bytes) ∙ (λ k. nat_le (sym end.spells k) (sym is.spells k))

pub greatest-number : (n : ℕ) (hi : List ℕ) → IsNumber n hi → IsGreatest (Some hi) n
greatest-number n hi end m v is =
    sym (numbers_decide 0 v hi (is.eight ∙ sym end.eight) is.bytes end.bytes) ∙ (λ k. nat_le (sym is.spells k) (sym end.spells k))

-- the same where there may be no number
pub least-if : (o : Option ℕ) (lo : List ℕ) → IfSome o (λ n. IsNumber n lo) → IfSome o (λ n. IsLeast (Some lo) n)
least-if None lo is = tt
least-if (Some n) lo is = least-number n lo is

pub greatest-if : (o : Option ℕ) (hi : List ℕ) → IfSome o (λ n. IsNumber n hi) → IfSome o (λ n. IsGreatest (Some hi) n)
greatest-if None hi is = tt
greatest-if (Some n) hi is = greatest-number n hi is

-- both numbers decide as both ends do
pub both_decide : (lo hi : Option (List ℕ)) (least greatest n : ℕ) (v : List ℕ) → IsLeast lo least → IsGreatest hi greatest → IsNumber n v → (nat_le least n && nat_le n greatest) ≡ is_within lo hi v
both_decide lo hi least greatest n v from to is = (λ k. sym (from n v is) k && sym (to n v is) k) ∙ ap (λ l. nat_lt 0 l && (is_from lo v && is_to hi v)) (sym is.eight)
