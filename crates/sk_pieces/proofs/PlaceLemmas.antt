-- The first entry from an id on, by its place.
use Rattle.std.proofs.Common.{◌≡◌, ℕ, zero, suc, ◌<◌, ◌≤◌, List, [], ◌∷◌, length, take, drop, get_or, refl, sym, ◌∙◌, arith}
use Rattle.sk_sorted.specs.Entries.{RiseAbove, from}
use Rattle.sk_sorted.specs.Places.{id_at}
use Rattle.sk_sorted.proofs.EntryLaws.{from-below, from-at}
use Rattle.sk_sorted.proofs.PlaceLaws.{id_at-get_or}

module _ {X : Type 0} where
  -- a front of what rises rises
  pub RiseAbove-take : (low n : ℕ) (es : List (ℕ × X)) → RiseAbove low es → RiseAbove low (take n es)
  RiseAbove-take low zero es up = tt
  RiseAbove-take low (suc n) [] up = tt
  RiseAbove-take low (suc n) (e ∷ es) up = (up.0, RiseAbove-take e.0 n es up.1)

  -- what stands before a place is below the id, and what stands there is not: the id leaves what stands from there on
  pub from_place : (id : ℕ) (es : List (ℕ × X)) (i : ℕ) → i ≤ length es → ((k : ℕ) → k < i → id_at es k < id) → (i < length es → id ≤ id_at es i) → drop i es ≡ from id es
  from_place id [] zero le before at = refl
  from_place id [] (suc i) le before at = absurd (omega arith)
  from_place id (e ∷ es) zero le before at = sym (from-at id e es (at (omega arith)))
  from_place id (e ∷ es) (suc i) le before at =
      from_place id es i (omega arith) (λ k lt. before (suc k) (omega arith)) (λ lt. at (omega arith)) ∙ sym (from-below id e es (before 0 (omega arith)))

  -- so it is where the first entry was found that reaches the id
  pub from_reached : (id : ℕ) (es : List (ℕ × X)) (i : ℕ) → i ≤ length es → ((e : ℕ × X) (k : ℕ) → 0 ≤ k → k < i → (get_or es k e).0 < id) → ((e : ℕ × X) → i < length es → id ≤ (get_or es i e).0) → drop i es ≡ from id es
  from_reached id [] i le before at = from_place id [] i le (λ k lt. absurd (omega (arith, le, lt))) (λ lt. absurd (omega (arith, lt)))
  from_reached id (e ∷ es) i le before at = from_place id (e ∷ es) i le (λ k lt. omega (arith, before e k (omega arith) lt, id_at-get_or (e ∷ es) k e (omega (arith, lt, le)))) (λ lt. omega (arith, at e lt, id_at-get_or (e ∷ es) i e lt))
