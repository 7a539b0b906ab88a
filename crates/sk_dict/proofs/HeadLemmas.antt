-- Terms are in the order of their heads, where these differ.
use Rattle.std.proofs.Common.{◌≡◌, ℕ, zero, suc, ◌+◌, ◌*◌, ◌^◌, ◌<◌, ◌≤◌, ◌-◌, inl, inr, lit<, Bool, true, false, List, [], ◌∷◌, drop, slice_index, sym, ap, subst, ◌∙◌, refl, arith}
use Rattle.std.specs.Ordering.{nat_cmp, ordering_then}
use Rattle.std.specs.declared.cmp.Ordering.{Ordering}
use Rattle.std.specs.declared.cmp.Ordering.TheVariants.{Less, Equal}
use Rattle.std.proofs.lemmas.Bool.{cases_lt}
use Rattle.std.proofs.lemmas.Bool.Decides.{nat_tests}
use Rattle.std.proofs.lemmas.List.{drop-drop, get_or-drop}
use Rattle.std.proofs.lemmas.Grind.{pow_more}
use Rattle.std.proofs.Math.Nat.{pow-le-pow_right}
use Rattle.sk_dict.specs.Terms.{term_cmp}
use Rattle.sk_dict.specs.Searches.{passed, stands_before}
use Rattle.sk_dict.specs.Heads.{AreBytes, with_bytes, head_of}
use Rattle.sk_dict.proofs.OrderLemmas.{turned}

-- what follows the first byte
bytes_rest : (bs : List ℕ) → AreBytes bs → AreBytes (drop 1 bs)
bytes_rest [] h = h
bytes_rest (b ∷ bs) h = λ i. h (suc i)

-- the higher number stays higher, whatever follows
higher : (n a b : ℕ) (us vs : List ℕ) → AreBytes us → AreBytes vs → a < b → with_bytes a n us < with_bytes b n vs
higher zero a b us vs hu hv lt = lt
higher (suc n) a b us vs hu hv lt =
    let low : slice_index us 0 < 256 = hu 0 in
    higher n (a * 256 + slice_index us 0) (b * 256 + slice_index vs 0) (drop 1 us) (drop 1 vs) (bytes_rest us hu) (bytes_rest vs hv) (omega arith)

-- the order of two first bytes is the order of the terms, where they differ
first_less : (a b : ℕ) (o : Ordering) → a < b → ordering_then (nat_cmp a b) o ≡ Less
first_less a b o lt = let e : nat_cmp a b ≡ Less = grind (arith, nat_tests) in ap (λ w. ordering_then w o) e

-- where they are the same, what follows decides
first_same : (a b : ℕ) (o : Ordering) → a ≡ b → ordering_then (nat_cmp a b) o ≡ o
first_same a b o same = let e : nat_cmp a b ≡ Equal = grind (arith, nat_tests) in ap (λ w. ordering_then w o) e

-- nothing stands before the empty term
empty_first : (xs : List ℕ) → term_cmp xs [] ≡ Less → ⊥
empty_first [] e = cc
empty_first (x ∷ xs) e = cc

-- the lower of two numbers with the same start stands first
lower_first : (n high : ℕ) (us vs : List ℕ) → AreBytes us → AreBytes vs → with_bytes high n us < with_bytes high n vs → term_cmp us vs ≡ Less
lower_first zero high us vs ha hb lt = absurd (omega arith)
lower_first (suc n) high [] [] ha hb lt = absurd (omega arith)
lower_first (suc n) high [] (y ∷ ys) ha hb lt = refl
lower_first (suc n) high (x ∷ xs) [] ha hb lt = elim (cases_lt 0 x) [
  | inl some ↦ absurd (omega (arith, lt, higher n (high * 256 + 0) (high * 256 + x) [] xs hb (bytes_rest (x ∷ xs) ha) (omega arith)))
  | inr none ↦
      let same : high * 256 + x ≡ high * 256 + 0 = omega arith in
      absurd (empty_first xs (lower_first n (high * 256 + 0) xs [] (bytes_rest (x ∷ xs) ha) hb (subst (λ k. with_bytes k n xs < with_bytes (high * 256 + 0) n []) same lt)))
]
lower_first (suc n) high (x ∷ xs) (y ∷ ys) ha hb lt = elim (cases_lt x y) [
  | inl less ↦ first_less x y (term_cmp xs ys) less
  | inr le ↦ elim (cases_lt y x) [
    | inl more ↦ absurd (omega (arith, lt, higher n (high * 256 + y) (high * 256 + x) ys xs (bytes_rest (y ∷ ys) hb) (bytes_rest (x ∷ xs) ha) (omega arith)))
    | inr ge ↦
        let same : high * 256 + x ≡ high * 256 + y = omega arith in
        let equal : x ≡ y = omega arith in
        first_same x y (term_cmp xs ys) equal
        ∙ lower_first n (high * 256 + y) xs ys (bytes_rest (x ∷ xs) ha) (bytes_rest (y ∷ ys) hb) (subst (λ k. with_bytes k n xs < with_bytes (high * 256 + y) n ys) same lt)
  ]
]

-- the lower head stands first
head_first : (a b : List ℕ) → AreBytes a → AreBytes b → head_of a < head_of b → term_cmp a b ≡ Less
unfolding head_of
head_first a b ha hb lt = lower_first 8 0 a b ha hb lt

module _ (own head : ℕ) (term key : List ℕ) (behind : Bool) (small : AreBytes term) (bytes : AreBytes key) (read : own ≡ head_of term) (same : head ≡ head_of key) where
  -- a lower head is passed
  pub lower_is_passed : own < head → true ≡ stands_before key behind term
  lower_is_passed less = sym (ap (passed behind) (head_first term key small bytes (omega arith)))

  -- a higher one is not
  pub higher_is_left : head < own → false ≡ stands_before key behind term
  higher_is_left more = sym (ap (passed behind) (turned key term (head_first key term bytes small (omega arith))))

-- one byte more of a number that has room
pub head_more : (high i byte : ℕ) → i < 8 → high < 256 ^ i → byte < 256 → (high * 256 + byte < 256 ^ (i + 1)) × (high * 256 + byte < 2 ^ 64)
head_more high i byte lt small b =
    let more : 256 ^ (i + 1) ≡ 256 ^ i * 256 = pow_more 256 i in
    let next : i + 1 ≤ 8 = omega arith in
    let some : 0 < 256 = lit< tt in
    let most : 256 ^ (i + 1) ≤ 256 ^ 8 = pow-le-pow_right some next in
    (omega arith, omega arith)

-- one byte more of what is left
pub followed_more : (high i byte : ℕ) (bs : List ℕ) → i < 8 → byte ≡ slice_index bs i → with_bytes (high * 256 + byte) (8 - (i + 1)) (drop (i + 1) bs) ≡ with_bytes high (8 - i) (drop i bs)
followed_more high i byte bs lt read =
    let left : 8 - i ≡ suc (8 - (i + 1)) = omega arith in
    let first : slice_index (drop i bs) 0 ≡ byte = get_or-drop i bs 0 0 ∙ ap (λ k. slice_index bs k) (omega arith) ∙ sym read in
    let rest : drop 1 (drop i bs) ≡ drop (i + 1) bs = drop-drop 1 i bs in
    sym (ap (λ k. with_bytes high k (drop i bs)) left ∙ ap (λ w. with_bytes (high * 256 + w) (8 - (i + 1)) (drop 1 (drop i bs))) first ∙ ap (λ w. with_bytes (high * 256 + byte) (8 - (i + 1)) w) rest)

-- no byte is written at first
pub head_of-start : (bs : List ℕ) → with_bytes 0 8 bs ≡ head_of bs
unfolding head_of
head_of-start bs = refl

-- all bytes are written
pub head_of-end : (high i : ℕ) (bs : List ℕ) → 8 ≤ i → with_bytes high (8 - i) (drop i bs) ≡ head_of bs → high ≡ head_of bs
head_of-end high i bs le e =
    let none : 8 - i ≡ 0 = omega arith in
    sym (ap (λ k. with_bytes high k (drop i bs)) none) ∙ e
