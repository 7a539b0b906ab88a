-- Where the first line's end stands.
use Rattle.std.proofs.Common.{◌≡◌, ◌≢◌, ◌≤◌, ◌+◌, ◌-◌, ◌==◌, ℕ, suc, Bool, true, false, not, cond, List, [], ◌∷◌, ◌++◌, Option, None, Some, MatchOption, length, take, drop, refl, sym, ap, ◌∙◌, subst, append_assoc, arith, length-drop, inl, inr, ◌⊎◌, ◌↔◌, nat_lt, is_some, IsTrue, true≢false}
use Rattle.std.specs.List.{position, position_or_len}
use Rattle.std.proofs.lemmas.List.{take-append-drop, drop-drop, length-take}
use Rattle.std.proofs.lemmas.Slice.{between_to_end}
use Rattle.std.proofs.Math.Seq.{take-add, take-append-add}
use Rattle.std.proofs.lemmas.Bool.Decides.{nat_tests}
use Rattle.std.proofs.lemmas.Bool.{lt-ltb}
use Rattle.sk_io.specs.LineText.{NoLineEnd, HasLineEnd}
use Rattle.sk_io.specs.Steps.{EndsAt}

-- no end in either part, so none in both together
pub no_end_both : (xs ys : List ℕ) → NoLineEnd xs → NoLineEnd ys → NoLineEnd (xs ++ ys)
no_end_both [] ys p q = q
no_end_both (x ∷ xs) ys p q = (p.0, no_end_both xs ys p.1 q)

-- an equal list has no end either
pub no_end_same : (xs ys : List ℕ) → xs ≡ ys → NoLineEnd xs → NoLineEnd ys
no_end_same xs ys e h = subst NoLineEnd e h

-- the first byte is an end
ends_first : (x : ℕ) (xs : List ℕ) → x ≡ 10 → EndsAt (x ∷ xs) 0
ends_first x xs e = record { no_end = tt; inside = omega arith; is = ap (λ b. b ∷ xs) e }

-- a byte that is no end stands before the others
ends_cons : (x n : ℕ) (xs : List ℕ) → x ≢ 10 → EndsAt xs n → EndsAt (x ∷ xs) (suc n)
ends_cons x n xs ne h =
    let step : suc (n + 1) ≡ suc n + 1 = omega arith in
    record {
      no_end = (ne, h.no_end);
      inside = omega (arith, h.inside);
      is = ap (λ w. x ∷ w) h.is ∙ ap (λ k. x ∷ (take n xs ++ 10 ∷ drop k (x ∷ xs))) step;
    }

-- what the test of a byte says where it is true
test_true : (x : ℕ) → (x == 10) ≡ true → x ≡ 10
test_true x e = grind (arith, nat_tests)

-- what the test of a byte says where it is false
test_false : (x : ℕ) → (x == 10) ≡ false → x ≢ 10
test_false x e = λ h. grind (arith, nat_tests)

-- what the number of bytes before the first end means
abbrev IsFront : List ℕ → ℕ → Type 0
IsFront xs n = EndsAt xs n ⊎ (NoLineEnd xs × (n ≡ length xs))

-- the number of bytes before the first end, with a byte more
front_cons : (x n : ℕ) (xs : List ℕ) (b : Bool) → (x == 10) ≡ b → IsFront xs n → IsFront (x ∷ xs) (cond (not b) (1 + n) 0)
front_cons x n xs true e h = inl (ends_first x xs (test_true x e))
front_cons x n xs false e (inl h) =
    let step : suc n ≡ 1 + n = omega arith in
    inl (subst (λ k. EndsAt (x ∷ xs) k) step (ends_cons x n xs (test_false x e) h))
front_cons x n xs false e (inr h) = inr ((test_false x e, h.0), omega (arith, h.1))

-- the number of bytes before the first end
front : (xs : List ℕ) → IsFront xs (position_or_len (λ b. b == 10) xs)
front [] = inr (tt, refl)
front (x ∷ xs) = front_cons x (position_or_len (λ b. b == 10) xs) xs (x == 10) refl (front xs)

-- the test of equal numbers
lt_false : (m n : ℕ) → m ≡ n → nat_lt m n ≡ false
lt_false m n h = grind (arith, nat_tests)

-- what the number of bytes before the first end answers
found_by : (xs : List ℕ) (n : ℕ) (r : Option ℕ) → r ≡ cond (nat_lt n (length xs)) (Some n) None → IsFront xs n → MatchOption r (NoLineEnd xs) (EndsAt xs)
found_by xs n r e (inl h) =
    let is : r ≡ Some n = e ∙ ap (λ b. cond b (Some n) None) (lt-ltb n (length xs) h.inside) in
    subst (λ o. MatchOption o (NoLineEnd xs) (EndsAt xs)) (sym is) h
found_by xs n r e (inr h) =
    let is : r ≡ None = e ∙ ap (λ b. cond b (Some n) None) (lt_false n (length xs) h.1) in
    subst (λ o. MatchOption o (NoLineEnd xs) (EndsAt xs)) (sym is) h.0

-- what `position` answers about the first end
pub by_position : (xs : List ℕ) (r : Option ℕ) → r ≡ position (λ b. b == 10) xs → MatchOption r (NoLineEnd xs) (EndsAt xs)
by_position xs r e = found_by xs (position_or_len (λ b. b == 10) xs) r e (front xs)

-- the first end is that of a later part, where there is none before
pub ends_behind : (xs : List ℕ) (m n : ℕ) → m ≤ length xs → NoLineEnd (take m xs) → EndsAt (take (length xs - m) (drop m xs)) n → EndsAt xs (m + n)
ends_behind xs m n le before h =
    let all : take (length xs - m) (drop m xs) ≡ drop m xs = between_to_end xs m (length xs) (omega arith) in
    let there : EndsAt (drop m xs) n = subst (λ w. EndsAt w n) all h in
    let step : m + (n + 1) ≡ (m + n) + 1 = omega arith in
    record {
      no_end = no_end_same _ _ (sym (take-add m n xs)) (no_end_both (take m xs) (take n (drop m xs)) before there.no_end);
      inside = omega (arith, there.inside, length-drop m xs);
      is =
          sym (take-append-drop m xs)
          ∙ ap (λ w. take m xs ++ w) there.is
          ∙ sym (append_assoc (take m xs) (take n (drop m xs)) (10 ∷ drop (n + 1) (drop m xs)))
          ∙ ap (λ w. w ++ 10 ∷ drop (n + 1) (drop m xs)) (sym (take-add m n xs))
          ∙ ap (λ w. take (m + n) xs ++ 10 ∷ w) (drop-drop (n + 1) m xs)
          ∙ ap (λ k. take (m + n) xs ++ 10 ∷ drop k xs) step;
    }

-- there is no end, neither among the first bytes nor behind them
pub none_behind : (xs : List ℕ) (m : ℕ) → NoLineEnd (take m xs) → NoLineEnd (take (length xs - m) (drop m xs)) → NoLineEnd xs
none_behind xs m before h =
    let all : take (length xs - m) (drop m xs) ≡ drop m xs = between_to_end xs m (length xs) (omega arith) in
    no_end_same _ _ (take-append-drop m xs) (no_end_both (take m xs) (drop m xs) before (no_end_same _ _ all h))

-- how long the line before an end is
pub length-before : (xs : List ℕ) (at : ℕ) → EndsAt xs at → length (take at xs) ≡ at
length-before xs at h = simp length-take (omega (arith, h.inside))

-- the line and its end
pub take-through : (xs : List ℕ) (at : ℕ) → EndsAt xs at → take (at + 1) xs ≡ take at xs ++ 10 ∷ []
take-through xs at h =
    ap (λ w. take (at + 1) w) h.is
    ∙ ap (λ k. take (k + 1) (take at xs ++ 10 ∷ drop (at + 1) xs)) (sym (length-before xs at h))
    ∙ take-append-add (take at xs) (10 ∷ drop (at + 1) xs) 1

-- in an equal list the end stands at the same place
pub ends_same : (xs ys : List ℕ) (at : ℕ) → xs ≡ ys → EndsAt xs at → EndsAt ys at
ends_same xs ys at e h = subst (λ w. EndsAt w at) e h

-- of two parts, the second has no end where both together have none
no_end_behind : (xs ys : List ℕ) → NoLineEnd (xs ++ ys) → NoLineEnd ys
no_end_behind [] ys h = h
no_end_behind (x ∷ xs) ys h = no_end_behind xs ys h.1

-- where an end stands, there is one
ends_has : (xs : List ℕ) (at : ℕ) → EndsAt xs at → HasLineEnd xs
ends_has xs at h none = (no_end_behind (take at xs) (10 ∷ drop (at + 1) xs) (no_end_same _ _ h.is none)).0 refl

-- whether an end was found tells whether there is one
pub has_end : (xs ys : List ℕ) (r : Option ℕ) (b : Bool) → xs ≡ ys → MatchOption r (NoLineEnd xs) (EndsAt xs) → b ≡ is_some r → IsTrue b ↔ HasLineEnd ys
has_end xs ys None b e h is = (λ t. absurd (true≢false (sym t ∙ is)), λ has. absurd (has (no_end_same xs ys e h)))
has_end xs ys (Some at) b e h is = (λ t. λ none. ends_has xs at h (no_end_same ys xs (sym e) none), λ has. is)
