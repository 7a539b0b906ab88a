-- A phrase of which two terms, one behind the other, stand too far apart.
use Rattle.std.proofs.Common.{◌≡◌, ℕ, zero, suc, ◌+◌, ◌-◌, ◌<◌, ◌≤◌, true, false, ◌&&◌, nat_lt, List, [], ◌∷◌, length, map, get_or, refl, sym, subst₂, arith}
use Rattle.std.proofs.lemmas.Bool.{ltb-true}
use Rattle.std.proofs.lemmas.List.{length-map, get_or-map}
use Rattle.sk_base.proofs.Tests.{first_so, second_so}
use Rattle.sk_model.specs.Positions.{phrase_from, is_phrase}
use Rattle.sk_near.proofs.SoonestLemmas.{any_at}
use Rattle.sk_packed.specs.Apart.{AreApart}

-- each operand takes a place of the window
takes_places : (window first last : ℕ) (more : List (List ℕ)) → phrase_from window first last more ≡ true → last + length more < first + window
takes_places window first last [] e = let narrow : last - first < window = ltb-true (last - first) window e in omega (arith, narrow)
takes_places window first last (positions ∷ more) e =
    let one = any_at (λ p. nat_lt last p && phrase_from window first p more) positions e in
    let p : ℕ = get_or positions one.0 0 in
    let behind : last < p = ltb-true last p (first_so (nat_lt last p) (phrase_from window first p more) one.2) in
    let rest = takes_places window first p more (second_so (nat_lt last p) (phrase_from window first p more) one.2) in
    omega (arith, behind, rest)

-- no phrase of these begins so
none_begins : (window : ℕ) (ps qs : List ℕ) (more : List (List ℕ)) → AreApart (window - length more) ps qs → is_phrase window (ps ∷ qs ∷ more) ≡ true → ⊥
none_begins window ps qs more apart e =
    let one = any_at (λ p. phrase_from window p p (qs ∷ more)) ps e in
    let p : ℕ = get_or ps one.0 0 in
    let other = any_at (λ q. nat_lt p q && phrase_from window p q more) qs one.2 in
    let q : ℕ = get_or qs other.0 0 in
    let behind : p < q = ltb-true p q (first_so (nat_lt p q) (phrase_from window p q more) other.2) in
    let rest : q + length more < p + window = takes_places window p q more (second_so (nat_lt p q) (phrase_from window p q more) other.2) in
    let far : p + (window - length more) ≤ q = apart one.0 other.0 one.1 other.1 behind in
    omega (arith, behind, rest, far)

-- two operands, one behind the other, and what is left of the window for them
two_behind : (window first last k : ℕ) (more : List (List ℕ)) → suc k < length more → phrase_from window first last more ≡ true
    → (a b : ℕ) × (a < length (get_or more k [])) × (b < length (get_or more (suc k) [])) × (last + k < get_or (get_or more k []) a 0)
    × (get_or (get_or more k []) a 0 < get_or (get_or more (suc k) []) b 0) × (get_or (get_or more (suc k) []) b 0 + (length more - 2 - k) < first + window)
two_behind window first last k [] lt e = absurd (omega (arith, lt))
two_behind window first last zero (ps ∷ []) lt e = absurd (omega (arith, lt))
two_behind window first last zero (ps ∷ qs ∷ more) lt e =
    let one = any_at (λ p. nat_lt last p && phrase_from window first p (qs ∷ more)) ps e in
    let p : ℕ = get_or ps one.0 0 in
    let behind : last < p = ltb-true last p (first_so (nat_lt last p) (phrase_from window first p (qs ∷ more)) one.2) in
    let other = any_at (λ q. nat_lt p q && phrase_from window first q more) qs (second_so (nat_lt last p) (phrase_from window first p (qs ∷ more)) one.2) in
    let q : ℕ = get_or qs other.0 0 in
    let further : p < q = ltb-true p q (first_so (nat_lt p q) (phrase_from window first q more) other.2) in
    let rest : q + length more < first + window = takes_places window first q more (second_so (nat_lt p q) (phrase_from window first q more) other.2) in
    (one.0, other.0, one.1, other.1, omega (arith, behind), further, omega (arith, rest))
two_behind window first last (suc k) (ps ∷ more) lt e =
    let one = any_at (λ p. nat_lt last p && phrase_from window first p more) ps e in
    let p : ℕ = get_or ps one.0 0 in
    let behind : last < p = ltb-true last p (first_so (nat_lt last p) (phrase_from window first p more) one.2) in
    let rest = two_behind window first p k more (omega (arith, lt)) (second_so (nat_lt last p) (phrase_from window first p more) one.2) in
    let low : last + suc k < get_or (get_or more k []) rest.0 0 = omega (arith, behind, rest.4) in
    let room : get_or (get_or more (suc k) []) rest.1 0 + (length (ps ∷ more) - 2 - suc k) < first + window = omega (arith, rest.6, lt) in
    (rest.0, rest.1, rest.2, rest.3, low, rest.5, room)

-- no phrase of these has two that are apart
none_apart : (window k : ℕ) (places : List (List ℕ)) → suc k < length places → AreApart (window - (length places - 2)) (get_or places k []) (get_or places (suc k) []) → is_phrase window places ≡ true → ⊥
none_apart window k [] lt apart e = absurd (omega (arith, lt))
none_apart window zero (ps ∷ []) lt apart e = absurd (omega (arith, lt))
none_apart window zero (ps ∷ qs ∷ more) lt apart e = none_begins window ps qs more (λ i j low high before. let far = apart i j low high before in omega (arith, far)) e
none_apart window (suc k) (ps ∷ more) lt apart e =
    let one = any_at (λ p. phrase_from window p p more) ps e in
    let p : ℕ = get_or ps one.0 0 in
    let two = two_behind window p p k more (omega (arith, lt)) one.2 in
    let far : get_or (get_or more k []) two.0 0 + (window - (length (ps ∷ more) - 2)) ≤ get_or (get_or more (suc k) []) two.1 0 = apart two.0 two.1 two.2 two.3 two.5 in
    omega (arith, far, two.4, two.5, two.6, lt)

pub apart_fails : (window k : ℕ) (f : ℕ → List ℕ) (ns : List ℕ) → k + 1 < length ns → AreApart (window - (length ns - 2)) (f (get_or ns k 0)) (f (get_or ns (k + 1) 0)) → is_phrase window (map f ns) ≡ false
apart_fails window k f ns lt apart =
    elim (is_phrase window (map f ns)) as (λ b. is_phrase window (map f ns) ≡ b → b ≡ false) [
      | true ↦ λ e. absurd (none_apart window k (map f ns) (omega (arith, lt, size)) apart_there e)
      | false ↦ λ e. refl
    ] refl
  where
    size : length (map f ns) ≡ length ns
    size = length-map ns f

    next : k + 1 ≡ suc k
    next = omega arith

    apart_there : AreApart (window - (length (map f ns) - 2)) (get_or (map f ns) k []) (get_or (map f ns) (suc k) [])
    apart_there =
        subst₂ (λ (ps qs : List ℕ). AreApart (window - (length (map f ns) - 2)) ps qs) (sym (get_or-map f ns k 0 [] (omega (arith, lt)))) (sym (get_or-map f ns (suc k) 0 [] (omega (arith, lt))))
        (subst₂ (λ n m. AreApart (window - (n - 2)) (f (get_or ns k 0)) (f (get_or ns m 0))) (sym size) next apart)
