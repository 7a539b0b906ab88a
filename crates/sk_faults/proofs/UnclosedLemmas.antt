-- Which brackets are never closed, counted from the right.
use Rattle.std.proofs.Common.{◌≡◌, ◌≤◌, ℕ, zero, suc, pred, ◌+◌, Bool, true, false, ◌&&◌, ◌||◌, ◌==◌, not, if◌then◌else◌, nat_lt, List, [], ◌∷◌, Option, Some, None, refl, sym, ap, ◌∙◌, arith}
use Rattle.std.proofs.lemmas.Bool.Decides.{nat_tests}
use Rattle.sk_grammar.specs.declared.token.Kind.{Kind}
use Rattle.sk_grammar.specs.Faults.{is_open, brackets_at, comes_to, is_unclosed}
use Rattle.sk_faults.specs.Before.{closers, unclosed_from, is_at}

-- A token that leaves the depth as it is.
same_depth : (d n c : ℕ) (b : Bool) → b ≡ nat_lt n c → ((d + suc n == d) || b) ≡ nat_lt n c
same_depth d n c b e = let far : (d + suc n == d) ≡ false = grind (arith, nat_tests) in (λ i. far i || e i)

-- One that opens a bracket.
deeper : (d n c : ℕ) (b : Bool) → b ≡ nat_lt (suc n) c → ((suc (d + suc n) == d) || b) ≡ nat_lt n (pred c)
deeper d n c b e = let far : (suc (d + suc n) == d) ≡ false = grind (arith, nat_tests) in (λ i. far i || e i) ∙ less n c
  where
    less : (n c : ℕ) → nat_lt (suc n) c ≡ nat_lt n (pred c)
    less n zero = grind (arith, nat_tests)
    less n (suc c) = grind (arith, nat_tests)

-- One that closes a bracket.
out : (d c : ℕ) (b : Bool) → ((pred (d + 1) == d) || b) ≡ nat_lt 0 (suc c)
out d c b = let there : (pred (d + 1) == d) ≡ true = grind (arith, nat_tests) in (λ i. there i || b) ∙ sym (grind (arith, nat_tests))

higher : (d n c : ℕ) (b : Bool) → b ≡ nat_lt n c → ((pred (d + suc (suc n)) == d) || b) ≡ nat_lt (suc n) (suc c)
higher d n c b e = let far : (pred (d + suc (suc n)) == d) ≡ false = grind (arith, nat_tests) in (λ i. far i || e i) ∙ sym (grind (arith, nat_tests))

-- The depth comes back from so far above, where more brackets than that close what was opened before these.
back : (d n : ℕ) (ks : List Kind) → comes_to d (d + suc n) ks ≡ nat_lt n (closers ks)
back d n [] = sym (grind (arith, nat_tests))
back d n (Kind.Open field ∷ ks) =
    let up : suc (d + suc n) ≡ d + suc (suc n) = omega arith in
    deeper d n (closers ks) (comes_to d (suc (d + suc n)) ks) (ap (λ m. comes_to d m ks) up ∙ back d (suc n) ks)
back d zero (Kind.Close ∷ ks) = out d (closers ks) (comes_to d (pred (d + 1)) ks)
back d (suc n) (Kind.Close ∷ ks) =
    let down : pred (d + suc (suc n)) ≡ d + suc n = omega arith in
    higher d n (closers ks) (comes_to d (pred (d + suc (suc n))) ks) (ap (λ m. comes_to d m ks) down ∙ back d n ks)
back d n (k ∷ ks) = same_depth d n (closers ks) (comes_to d (d + suc n) ks) (back d n ks)

-- A bracket is never closed where none of what follows closes what was opened before.
pub unclosed_same : (before : List Kind) (k : Kind) (ks : List Kind) → is_unclosed before k ks ≡ (is_open k && closers ks == 0)
unclosed_same before k ks =
    let up : suc (brackets_at before) ≡ brackets_at before + suc 0 = omega arith in
    let none : not (nat_lt 0 (closers ks)) ≡ (closers ks == 0) = grind (arith, nat_tests) in
    ap (λ m. is_open k && not (comes_to (brackets_at before) m ks)) up ∙ ap (λ b. is_open k && not b) (back (brackets_at before) 0 ks) ∙ ap (λ b. is_open k && b) none

-- The first that is never closed stands at this place or behind it.
ahead : (i j : ℕ) (ks : List Kind) → unclosed_from i ks ≡ Some j → i ≤ j
ahead i j [] e = absurd (cc)
ahead i j (k ∷ ks) e =
    elim (is_open k && closers ks == 0) as (λ b. (if b then Some i else unclosed_from (suc i) ks) ≡ Some j → i ≤ j) [
      | true ↦ λ f. let same : i ≡ j = cc in omega arith
      | false ↦ λ f. let more : suc i ≤ j = ahead (suc i) j ks f in omega arith
    ] e

-- Whether it stands at this place.
same_place : (i : ℕ) (o : Option ℕ) (b : Bool) → ((j : ℕ) → o ≡ Some j → suc i ≤ j) → is_at (if b then Some i else o) i ≡ b
same_place i o true h = grind (arith, nat_tests)
same_place i None false h = refl
same_place i (Some j) false h = let far : suc i ≤ j = h j refl in grind (arith, nat_tests)

pub at_unclosed : (before : List Kind) (i : ℕ) (k : Kind) (ks : List Kind) (o : Option ℕ) → o ≡ unclosed_from i (k ∷ ks) → is_at o i ≡ is_unclosed before k ks
at_unclosed before i k ks o e =
    ap (λ first. is_at first i) e ∙ same_place i (unclosed_from (suc i) ks) (is_open k && closers ks == 0) (λ j f. ahead (suc i) j ks f) ∙ sym (unclosed_same before k ks)

-- Behind a token that is no such bracket.
pub past_unclosed : (i : ℕ) (k : Kind) (ks : List Kind) (o : Option ℕ) → o ≡ unclosed_from i (k ∷ ks) → is_at o i ≡ false → o ≡ unclosed_from (suc i) ks
past_unclosed i k ks o e f = e ∙ rw (sym (unclosed_same [] k ks), sym (at_unclosed [] i k ks o e), f) refl
