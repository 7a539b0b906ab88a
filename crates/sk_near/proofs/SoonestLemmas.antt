-- The least position from a bound on.
use Rattle.std.proofs.Common.{◌≡◌, ◌⊎◌, ℕ, zero, suc, ◌<◌, ◌≤◌, min, Bool, true, false, ◌||◌, List, [], ◌∷◌, length, get_or, Option, Some, None, inl, inr, refl, sym, ap, ◌∙◌, arith, true≢false}
use Rattle.std.proofs.lemmas.Bool.{cases_lt}
use Rattle.std.proofs.lemmas.Bool.Decides.{nat_tests}
use Rattle.std.proofs.lemmas.Option.{same_Some, none-some}
use Rattle.std.specs.List.{list_any, AllPairs, slice_get}
use Rattle.sk_near.specs.Places.{IsParted}
use Rattle.sk_near.specs.Soonest.{lesser, first_from}

-- a position that passes, by its place
pub any_at : (f : ℕ → Bool) (xs : List ℕ) → list_any f xs ≡ true → (k : ℕ) × (k < length xs) × (f (get_or xs k 0) ≡ true)
any_at f [] e = absurd (true≢false (sym e))
any_at f (x ∷ xs) e =
    elim (f x) as (λ b. f x ≡ b → (b || list_any f xs) ≡ true → (k : ℕ) × (k < length (x ∷ xs)) × (f (get_or (x ∷ xs) k 0) ≡ true)) [
      | true ↦ λ h k. (0, omega arith, h)
      | false ↦ λ h k. let more = any_at f xs k in (suc more.0, omega (arith, more.1), more.2)
    ] refl e

-- none passes
pub any_none : (f : ℕ → Bool) (xs : List ℕ) → ((k : ℕ) → k < length xs → f (get_or xs k 0) ≡ true → ⊥) → list_any f xs ≡ false
any_none f xs none =
    elim (list_any f xs) as (λ b. list_any f xs ≡ b → b ≡ false) [
      | true ↦ λ e. let one = any_at f xs e in absurd (none one.0 one.1 one.2)
      | false ↦ λ e. refl
    ] refl

-- the first of the positions lies below
first_passes : (bound p : ℕ) (positions : List ℕ) → p < bound → first_from bound (p ∷ positions) ≡ first_from bound positions
first_passes bound p positions lt = grind (arith, nat_tests)

-- it does not
first_stops : (bound p : ℕ) (positions : List ℕ) → bound ≤ p → first_from bound (p ∷ positions) ≡ Some (lesser p (first_from bound positions))
first_stops bound p positions le = grind (arith, nat_tests)

-- the lesser is one of both
lesser_is : (p q : ℕ) (o : Option ℕ) → lesser p o ≡ q → (p ≡ q) ⊎ (o ≡ Some q)
lesser_is p q None e = inl e
lesser_is p q (Some r) e =
    elim (cases_lt p r) [
      | inl lt ↦ inl (omega arith)
      | inr le ↦ let same : r ≡ q = omega arith in inr (ap Some same)
    ]

lesser_below : (p : ℕ) (o : Option ℕ) → lesser p o ≤ p
lesser_below p None = omega arith
lesser_below p (Some r) = omega arith

-- the least position is one, and not below the bound
pub first_is_one : (bound q : ℕ) (positions : List ℕ) → first_from bound positions ≡ Some q → (k : ℕ) × (k < length positions) × (get_or positions k 0 ≡ q) × (bound ≤ q)
first_is_one bound q [] e = absurd (none-some q e)
first_is_one bound q (p ∷ positions) e =
    elim (cases_lt p bound) [
      | inl lt ↦ let more = first_is_one bound q positions (sym (first_passes bound p positions lt) ∙ e) in (suc more.0, omega (arith, more.1), more.2, more.3)
      | inr le ↦ elim (lesser_is p q (first_from bound positions) (same_Some _ q (sym (first_stops bound p positions le) ∙ e))) [
        | inl here ↦ (0, omega arith, here, omega arith)
        | inr there ↦ let more = first_is_one bound q positions there in (suc more.0, omega (arith, more.1), more.2, more.3)
      ]
    ]

-- there is one, and it is not above any position from the bound on
pub first_is_least : (bound : ℕ) (positions : List ℕ) (k : ℕ) → k < length positions → bound ≤ get_or positions k 0
    → (q : ℕ) × (first_from bound positions ≡ Some q) × (q ≤ get_or positions k 0)
first_is_least bound [] k lt above = absurd (omega arith)
first_is_least bound (p ∷ positions) zero lt above = (lesser p (first_from bound positions), first_stops bound p positions above, lesser_below p (first_from bound positions))
first_is_least bound (p ∷ positions) (suc k) lt above =
    let more = first_is_least bound positions k (omega arith) above in
    elim (cases_lt p bound) [
      | inl less ↦ (more.0, first_passes bound p positions less ∙ more.1, more.2)
      | inr le ↦ (min p more.0, first_stops bound p positions le ∙ ap (λ o. Some (lesser p o)) more.1, omega (arith, more.2))
    ]

-- where there is none, all positions lie below
pub first_none : (bound : ℕ) (positions : List ℕ) (k : ℕ) → first_from bound positions ≡ None → k < length positions → get_or positions k 0 < bound
first_none bound positions k none lt =
    elim (cases_lt (get_or positions k 0) bound) [
      | inl less ↦ less
      | inr le ↦ let some = first_is_least bound positions k lt le in absurd (none-some some.0 (sym none ∙ some.1))
    ]

-- among positions that rise it stands at the bound's place
pub first_at : (bound : ℕ) (positions : List ℕ) (place : ℕ) → AllPairs (λ a b. a < b) positions → IsParted bound positions place place
    → first_from bound positions ≡ slice_get positions place
first_at bound [] place rising parted = refl
first_at bound (p ∷ positions) zero rising parted = first_stops bound p positions (parted.behind 0 (omega arith) (omega arith)) ∙ ap Some (is_first (first_from bound positions) refl)
  where
    is_first : (o : Option ℕ) → first_from bound positions ≡ o → lesser p o ≡ p
    is_first None e = refl
    is_first (Some r) e =
        let one = first_is_one bound r positions e in
        let less : p < get_or positions one.0 0 = rising 0 (suc one.0) 0 (omega arith) (omega (arith, one.1)) in
        omega (arith, one.2)
first_at bound (p ∷ positions) (suc place) rising parted =
    first_passes bound p positions (parted.before 0 (omega arith)) ∙ first_at bound positions place (λ i j d lt within. rising (suc i) (suc j) d (omega arith) (omega arith)) (record {
      order = omega arith;
      within = omega (arith, parted.within);
      before = λ k lt. parted.before (suc k) (omega arith);
      behind = λ k le lt. parted.behind (suc k) (omega arith) (omega arith);
    })

-- a position is not below its place
pub place_fits : (positions : List ℕ) → AllPairs (λ a b. a < b) positions → (place : ℕ) → place < length positions → place ≤ get_or positions place 0
place_fits positions rising zero lt = omega arith
place_fits positions rising (suc place) lt =
    let rest : place ≤ get_or positions place 0 = place_fits positions rising place (omega arith) in
    let less : get_or positions place 0 < get_or positions (suc place) 0 = rising place (suc place) 0 (omega arith) lt in
    omega arith
