-- What a walk over the terms that begin with a prefix says of the numbers that it gives.
use Rattle.std.proofs.Common.{◌≡◌, ℕ, ◌<◌, Bool, true, false, ◌||◌, Option, Some, List, [], ◌∷◌, length, All, AllPairs, inl, inr, refl, sym, ap, ◌∙◌, arith}
use Rattle.std.specs.List.{AllByRecursion, list_any}
use Rattle.std.proofs.lemmas.Bool.{cases_eq}
use Rattle.std.proofs.lemmas.Cmp.{nat_list_cmp_total}
use Rattle.std.proofs.lemmas.List.Elements.{All-from_recursion}
use Rattle.std.proofs.lemmas.List.Kept.{AllPairs-cons}
use Rattle.sk_dict.specs.Terms.{term_at, begins_with, Precedes, IsFollower, IsWalk}

module _ (terms : List (List ℕ)) (prefix : List ℕ) where
  -- each of them is the number of a term
  there_each : (after : Option ℕ) (ns : List ℕ) → IsWalk terms prefix after ns → AllByRecursion (λ n. n < length terms) ns
  there_each after [] w = tt
  there_each after (n ∷ ns) w = (w.0.follows.there, there_each (Some n) ns w.1)

  pub walk-there : (after : Option ℕ) (ns : List ℕ) → IsWalk terms prefix after ns → All (λ n. n < length terms) ns
  walk-there after ns w = All-from_recursion (λ n. n < length terms) ns (there_each after ns w)

  -- whose term begins with the prefix
  begins_each : (after : Option ℕ) (ns : List ℕ) → IsWalk terms prefix after ns → AllByRecursion (λ n. begins_with (term_at terms n) prefix ≡ true) ns
  begins_each after [] w = tt
  begins_each after (n ∷ ns) w = (w.0.follows.begins, begins_each (Some n) ns w.1)

  pub walk-begins : (after : Option ℕ) (ns : List ℕ) → IsWalk terms prefix after ns → All (λ n. begins_with (term_at terms n) prefix ≡ true) ns
  walk-begins after ns w = All-from_recursion (λ n. begins_with (term_at terms n) prefix ≡ true) ns (begins_each after ns w)

  -- and stands behind
  behind_each : (low : List ℕ) (n : ℕ) (ns : List ℕ) → Precedes low (term_at terms n) → IsWalk terms prefix (Some n) ns → AllByRecursion (λ m. Precedes low (term_at terms m)) ns
  behind_each low n [] p w = tt
  behind_each low n (m ∷ ns) p w =
      let q : Precedes low (term_at terms m) = nat_list_cmp_total.trans low (term_at terms n) (term_at terms m) p w.0.follows.behind in
      (q, behind_each low m ns q w.1)

  behind_first : (n : ℕ) (ns : List ℕ) → IsWalk terms prefix (Some n) ns → AllByRecursion (λ m. Precedes (term_at terms n) (term_at terms m)) ns
  behind_first n [] w = tt
  behind_first n (m ∷ ns) w = (w.0.follows.behind, behind_each (term_at terms n) m ns w.0.follows.behind w.1)

  -- the terms rise, so none comes twice
  pub walk-rising : (after : Option ℕ) (ns : List ℕ) → IsWalk terms prefix after ns → AllPairs (λ m n. Precedes (term_at terms m) (term_at terms n)) ns
  walk-rising after [] w = λ i j d below within. absurd (omega arith)
  walk-rising after (n ∷ ns) w =
      AllPairs-cons (λ (m n : ℕ). Precedes (term_at terms m) (term_at terms n)) n ns
      (All-from_recursion (λ m. Precedes (term_at terms n) (term_at terms m)) ns (behind_first n ns w.1)) (walk-rising (Some n) ns w.1)

  -- a test that holds of one that begins so and stands behind holds of one of them
  pub walk-has : (test : ℕ → Bool) (m : ℕ) (after : Option ℕ) (ns : List ℕ) → IsWalk terms prefix after ns → IsFollower terms prefix after m → test m ≡ true → list_any test ns ≡ true
  walk-has test m after [] w f h = absurd (w m f)
  walk-has test m after (n ∷ ns) w f h = elim (cases_eq m n) [
    | inl same ↦ ap (λ b. b || list_any test ns) (ap test (sym same) ∙ h)
    | inr apart ↦ either (test n) (list_any test ns) (walk-has test m (Some n) ns w.1 (record { there = f.there; begins = f.begins; behind = w.0.first m f apart }) h)
  ]
    where
      either : (b c : Bool) → c ≡ true → (b || c) ≡ true
      either true c e = refl
      either false c e = e
