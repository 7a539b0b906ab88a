-- Near holds where a window holds a position of each operand.
use Rattle.std.proofs.Common.{◌≡◌, ◌<◌, ◌≤◌, ◌+◌, ◌-◌, ℕ, min, max, Bool, true, false, ◌&&◌, ◌||◌, nat_le, nat_lt, List, [], ◌∷◌, length, refl, sym, arith, true≢false, le_refl}
use Rattle.std.proofs.lemmas.Bool.Decides.{nat_tests}
use Rattle.std.proofs.lemmas.Bool.{and_from, or_left, or_right}
use Rattle.std.specs.List.{list_any}
use Rattle.sk_base.proofs.Tests.{first_so, second_so}
use Rattle.sk_model.specs.Positions.{near_from, is_near}
use Rattle.sk_model.specs.Laws.{stand_within}

-- a position of a window that begins here
abbrev pub inside : ℕ → ℕ → ℕ → Bool
inside window p q = nat_le p q && nat_lt q (p + window)

pub is_inside : (window p q : ℕ) → p ≤ q → q < p + window → inside window p q ≡ true
is_inside window p q h g = grind (arith, nat_tests)

pub inside_from : (window p q : ℕ) → inside window p q ≡ true → p ≤ q
inside_from window p q e = grind (arith, nat_tests)

pub inside_to : (window p q : ℕ) → inside window p q ≡ true → q < p + window
inside_to window p q e = grind (arith, nat_tests)

is_narrow : (window n : ℕ) → n < window → nat_lt n window ≡ true
is_narrow window n h = grind (arith, nat_tests)

narrow_is : (window n : ℕ) → nat_lt n window ≡ true → n < window
narrow_is window n e = grind (arith, nat_tests)

-- one that passes, and whatever else it passes some one of them passes
any_one : (f : ℕ → Bool) (xs : List ℕ) → list_any f xs ≡ true → (x : ℕ) × (f x ≡ true) × ((g : ℕ → Bool) → g x ≡ true → list_any g xs ≡ true)
any_one f [] e = absurd (true≢false (sym e))
any_one f (x ∷ xs) e =
    elim (f x) as (λ b. f x ≡ b → (b || list_any f xs) ≡ true → (y : ℕ) × (f y ≡ true) × ((g : ℕ → Bool) → g y ≡ true → list_any g (x ∷ xs) ≡ true)) [
      | true ↦ λ h k. (x, h, λ g so. or_left (g x) (list_any g xs) so)
      | false ↦ λ h k. let more = any_one f xs k in (more.0, more.1, λ g so. or_right (g x) (list_any g xs) (more.2 g so))
    ] refl e

module _ (window : ℕ) (some : 1 ≤ window) where
  found_from : (least most : ℕ) (places : List (List ℕ)) → near_from window least most places ≡ true
      → (p : ℕ) × (p ≤ least) × (most < p + window) × (stand_within window p places ≡ true)
  found_from least most [] e = let narrow : most - least < window = narrow_is window (most - least) e in (least, le_refl least, omega (arith, narrow, some), refl)
  found_from least most (positions ∷ more) e =
      let q = any_one (λ p. near_from window (min least p) (max most p) more) positions e in
      let rest = found_from (min least q.0) (max most q.0) more q.1 in
      let low : rest.0 ≤ min least q.0 = rest.1 in
      let high : max most q.0 < rest.0 + window = rest.2 in (
        rest.0,
        omega (arith, low),
        omega (arith, high),
        and_from (list_any (inside window rest.0) positions) (stand_within window rest.0 more) (q.2 (inside window rest.0) (is_inside window rest.0 q.0 (omega (arith, low)) (omega (arith, high)))) rest.3,
      )

  holds_from : (p least most : ℕ) (places : List (List ℕ)) → p ≤ least → most < p + window → stand_within window p places ≡ true → near_from window least most places ≡ true
  holds_from p least most [] low high e = is_narrow window (most - least) (omega (arith, low, high, some))
  holds_from p least most (positions ∷ more) low high e =
      let q = any_one (inside window p) positions (first_so (list_any (inside window p) positions) (stand_within window p more) e) in
      let from : p ≤ q.0 = inside_from window p q.0 q.1 in
      let to : q.0 < p + window = inside_to window p q.0 q.1 in
      q.2 (λ r. near_from window (min least r) (max most r) more)
      (holds_from p (min least q.0) (max most q.0) more (omega (arith, low, from)) (omega (arith, high, to)) (second_so (list_any (inside window p) positions) (stand_within window p more) e))

  pub near_found : (places : List (List ℕ)) → is_near window places ≡ true → (p : ℕ) × (stand_within window p places ≡ true)
  near_found [] e = absurd (true≢false (sym e))
  near_found (positions ∷ more) e =
      let q = any_one (λ p. near_from window p p more) positions e in
      let rest = found_from q.0 q.0 more q.1 in
      (rest.0, and_from (list_any (inside window rest.0) positions) (stand_within window rest.0 more) (q.2 (inside window rest.0) (is_inside window rest.0 q.0 rest.1 rest.2)) rest.3)

  pub near_holds : (places : List (List ℕ)) (p : ℕ) → 1 ≤ length places → stand_within window p places ≡ true → is_near window places ≡ true
  near_holds [] p given e = absurd (omega (arith, given))
  near_holds (positions ∷ more) p given e =
      let q = any_one (inside window p) positions (first_so (list_any (inside window p) positions) (stand_within window p more) e) in
      q.2 (λ r. near_from window r r more)
      (holds_from p q.0 q.0 more (inside_from window p q.0 q.1) (inside_to window p q.0 q.1) (second_so (list_any (inside window p) positions) (stand_within window p more) e))
