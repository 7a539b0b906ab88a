-- A phrase by positions that are taken as soon as can be.
use Rattle.std.proofs.Common.{◌≡◌, ℕ, ◌+◌, ◌-◌, ◌<◌, ◌≤◌, true, false, ◌&&◌, nat_lt, List, [], ◌∷◌, length, drop, get_or, Some, None, refl, sym, ap, subst, ◌∙◌, arith}
use Rattle.std.proofs.lemmas.Bool.{and_from, lt-ltb, ltb-true}
use Rattle.std.proofs.lemmas.List.Folds.{list_any_at}
use Rattle.std.proofs.lemmas.Option.{same_Some, none-some}
use Rattle.std.specs.List.{list_any}
use Rattle.std.specs.Option.{option_and_then}
use Rattle.sk_base.proofs.Tests.{first_so, second_so}
use Rattle.sk_model.specs.Positions.{phrase_from, is_phrase}
use Rattle.sk_near.specs.Soonest.{first_from, soonest_end}
use Rattle.sk_near.proofs.SoonestLemmas.{any_at, any_none, first_is_one, first_is_least}

-- the phrases that begin at a position of the first operand begin here or behind
pub record BeginFrom (window low : ℕ) (places : List (List ℕ)) : Type 0 where
  pub from : (k : ℕ) → k < length (get_or places 0 []) → phrase_from window (get_or (get_or places 0 []) k 0) (get_or (get_or places 0 []) k 0) (drop 1 places) ≡ true → low ≤ get_or (get_or places 0 []) k 0

-- all begin at 0 or behind
pub begin_anywhere : (window : ℕ) (places : List (List ℕ)) → BeginFrom window 0 places
begin_anywhere window places = record { from = λ k lt e. omega arith }

module _ (window : ℕ) (wide : 1 ≤ window) where
  -- where those that are taken as soon as can be end within the window, there is a phrase
  ends_within : (first last end : ℕ) (more : List (List ℕ)) → soonest_end (last + 1) more ≡ Some end → end ≤ first + window → phrase_from window first last more ≡ true
  ends_within first last end [] e le = let same : last + 1 ≡ end = same_Some _ end e in lt-ltb (last - first) window (omega (arith, wide))
  ends_within first last end (positions ∷ more) e le =
      elim (first_from (last + 1) positions) as (λ o. first_from (last + 1) positions ≡ o → option_and_then (λ p. soonest_end (p + 1) more) o ≡ Some end → list_any (λ p. nat_lt last p && phrase_from window first p more) positions ≡ true) [
        | None ↦ λ is f. absurd (none-some end f)
        | Some q ↦ λ is f.
            let one = first_is_one (last + 1) q positions is in
            list_any_at (λ p. nat_lt last p && phrase_from window first p more) positions one.0 0 one.1
            (subst (λ (p : ℕ). (nat_lt last p && phrase_from window first p more) ≡ true) (sym one.2)
            (and_from (nat_lt last q) (phrase_from window first q more) (lt-ltb last q (omega (arith, one.3))) (ends_within first q end more f le)))
      ] refl e

  -- where there is a phrase, those that are taken as soon as can be end within its window
  soonest_within : (first last bound : ℕ) (more : List (List ℕ)) → bound ≤ last + 1 → phrase_from window first last more ≡ true → (end : ℕ) × (soonest_end bound more ≡ Some end) × (end ≤ first + window)
  soonest_within first last bound [] le e = let narrow : last - first < window = ltb-true (last - first) window e in (bound, refl, omega (arith, narrow))
  soonest_within first last bound (positions ∷ more) le e =
      let one = any_at (λ p. nat_lt last p && phrase_from window first p more) positions e in
      let p : ℕ = get_or positions one.0 0 in
      let behind : last < p = ltb-true last p (first_so (nat_lt last p) (phrase_from window first p more) one.2) in
      let least = first_is_least bound positions one.0 one.1 (omega (arith, behind)) in
      let rest = soonest_within first p (least.0 + 1) more (omega (arith, least.2)) (second_so (nat_lt last p) (phrase_from window first p more) one.2) in
      (rest.0, ap (option_and_then (λ r. soonest_end (r + 1) more)) least.1 ∙ rest.1, rest.2)

  -- where a phrase begins from here on, all operands can be taken, and end within its window
  all_taken : (positions : List ℕ) (more : List (List ℕ)) (low k : ℕ) → k < length positions → low ≤ get_or positions k 0 → phrase_from window (get_or positions k 0) (get_or positions k 0) more ≡ true
      → (end : ℕ) × (soonest_end low (positions ∷ more) ≡ Some end) × (end ≤ get_or positions k 0 + window)
  all_taken positions more low k lt from e =
      let least = first_is_least low positions k lt from in
      let rest = soonest_within (get_or positions k 0) (get_or positions k 0) (least.0 + 1) more (omega (arith, least.2)) e in
      (rest.0, ap (option_and_then (λ p. soonest_end (p + 1) more)) least.1 ∙ rest.1, rest.2)

  -- not all can be taken
  pub no_phrase : (places : List (List ℕ)) (low : ℕ) → 1 ≤ length places → BeginFrom window low places → soonest_end low places ≡ None → is_phrase window places ≡ false
  no_phrase [] low some begins none = absurd (omega arith)
  no_phrase (positions ∷ more) low some begins none =
      any_none (λ p. phrase_from window p p more) positions
      (λ k lt e. let taken = all_taken positions more low k lt (begins.from k lt e) e in none-some taken.0 (sym none ∙ taken.1))

  -- they end within the window
  pub is_found : (places : List (List ℕ)) (low first end : ℕ) → 1 ≤ length places → first_from low (get_or places 0 []) ≡ Some first
      → soonest_end low places ≡ Some end → end ≤ first + window → is_phrase window places ≡ true
  is_found [] low first end some is ends le = absurd (omega arith)
  is_found (positions ∷ more) low first end some is ends le =
      let one = first_is_one low first positions is in
      let rest = sym (ap (option_and_then (λ p. soonest_end (p + 1) more)) is) ∙ ends in
      list_any_at (λ p. phrase_from window p p more) positions one.0 0 one.1
      (subst (λ (p : ℕ). phrase_from window p p more ≡ true) (sym one.2) (ends_within first first end more rest le))

  -- they do not, and no phrase that begins later ends earlier
  pub begin_later : (places : List (List ℕ)) (low end : ℕ) → 1 ≤ length places → BeginFrom window low places → soonest_end low places ≡ Some end → BeginFrom window (end - window) places
  begin_later [] low end some begins ends = absurd (omega arith)
  begin_later (positions ∷ more) low end some begins ends = record {
    from = λ k lt e.
        let taken = all_taken positions more low k lt (begins.from k lt e) e in
        let last : end ≡ taken.0 = same_Some end taken.0 (sym ends ∙ taken.1) in
        omega (arith, taken.2);
  }
