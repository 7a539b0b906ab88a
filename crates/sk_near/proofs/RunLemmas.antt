-- Equal operands one behind another, each taken as soon as can be.
use Rattle.std.proofs.Common.{◌≡◌, ℕ, zero, suc, ◌+◌, ◌-◌, ◌<◌, ◌≤◌, List, [], ◌∷◌, length, drop, get_or, Option, Some, None, inl, inr, sym, ap, subst, ◌∙◌, arith, le_refl}
use Rattle.std.proofs.lemmas.Bool.{cases_lt}
use Rattle.std.proofs.lemmas.List.{drop_more}
use Rattle.std.proofs.lemmas.Option.{slice_get_past, slice_get-get_or}
use Rattle.std.specs.List.{AllPairs}
use Rattle.std.specs.Option.{option_and_then}
use Rattle.sk_near.specs.Places.{IsParted}
use Rattle.sk_near.specs.Soonest.{first_from, soonest_end}
use Rattle.sk_near.proofs.SoonestLemmas.{first_at}

module _ (positions : List ℕ) (rising : AllPairs (λ a b. a < b) positions) where
  -- behind a position stands the next
  next_parted : (place : ℕ) → place < length positions → IsParted (get_or positions place 0 + 1) positions (place + 1) (place + 1)
  next_parted place lt = record {
    order = le_refl (place + 1);
    within = omega (arith, lt);
    before = λ k less. elim (cases_lt k place) as (λ _. get_or positions k 0 < get_or positions place 0 + 1) [
      | inl before ↦ let below : get_or positions k 0 < get_or positions place 0 = rising k place 0 before lt in omega arith
      | inr at ↦ let same : k ≡ place = omega (arith, at, less) in subst (λ n. get_or positions n 0 < get_or positions place 0 + 1) (sym same) (omega arith)
    ];
    behind = λ k le within. let above : get_or positions place 0 < get_or positions k 0 = rising place k 0 (omega (arith, le)) within in omega arith;
  }

  module _ (places : List (List ℕ)) where
    -- the operand's first position from a bound on
    first_taken : (o : Option ℕ) (bound place i : ℕ) → IsParted bound positions place place → i < length places → get_or places i [] ≡ positions → first_from bound positions ≡ o
        → soonest_end bound (drop i places) ≡ option_and_then (λ p. soonest_end (p + 1) (drop (i + 1) places)) o
    first_taken o bound place i parted there is first =
        ap (soonest_end bound) (drop_more places i [] there) ∙ ap (λ (ps : List ℕ). soonest_end bound (ps ∷ drop (i + 1) places)) is
        ∙ ap (option_and_then (λ p. soonest_end (p + 1) (drop (i + 1) places))) first

    -- the operand takes the position at its place
    takes : (bound place i : ℕ) → IsParted bound positions place place → place < length positions → i < length places → get_or places i [] ≡ positions
        → soonest_end bound (drop i places) ≡ soonest_end (get_or positions place 0 + 1) (drop (i + 1) places)
    takes bound place i parted lt there is =
        first_taken (Some (get_or positions place 0)) bound place i parted there is (first_at bound positions place rising parted ∙ slice_get-get_or positions place 0 lt)

    -- it has none
    takes_none : (bound place i : ℕ) → IsParted bound positions place place → length positions ≤ place → i < length places → get_or places i [] ≡ positions → soonest_end bound (drop i places) ≡ None
    takes_none bound place i parted past there is = first_taken None bound place i parted there is (first_at bound positions place rising parted ∙ slice_get_past positions place past)

    -- each of the others stands one place further
    pub run_taken : (m bound place i : ℕ) → IsParted bound positions place place → place + m < length positions → i + m < length places → ((j : ℕ) → i ≤ j → j < i + m + 1 → get_or places j [] ≡ positions)
        → soonest_end bound (drop i places) ≡ soonest_end (get_or positions (place + m) 0 + 1) (drop (i + m + 1) places)
    run_taken zero bound place i parted lt within equal =
        let at : place ≡ place + 0 = omega arith in
        let to : i + 1 ≡ i + 0 + 1 = omega arith in
        takes bound place i parted (omega (arith, lt)) (omega (arith, within)) (equal i (le_refl i) (omega arith))
        ∙ ap (λ n. soonest_end (get_or positions n 0 + 1) (drop (i + 1) places)) at ∙ ap (λ n. soonest_end (get_or positions (place + 0) 0 + 1) (drop n places)) to
    run_taken (suc m) bound place i parted lt within equal =
        let at : place + 1 + m ≡ place + suc m = omega arith in
        let to : i + 1 + m + 1 ≡ i + suc m + 1 = omega arith in
        takes bound place i parted (omega (arith, lt)) (omega (arith, within)) (equal i (le_refl i) (omega arith))
        ∙ run_taken m (get_or positions place 0 + 1) (place + 1) (i + 1) (next_parted place (omega (arith, lt))) (omega (arith, lt)) (omega (arith, within)) (λ j le less. equal j (omega (arith, le)) (omega (arith, less)))
        ∙ ap (λ n. soonest_end (get_or positions n 0 + 1) (drop (i + 1 + m + 1) places)) at ∙ ap (λ n. soonest_end (get_or positions (place + suc m) 0 + 1) (drop n places)) to

    -- there are too few places
    pub run_none : (m bound place i : ℕ) → IsParted bound positions place place → length positions ≤ place + m → i + m < length places → ((j : ℕ) → i ≤ j → j < i + m + 1 → get_or places j [] ≡ positions)
        → soonest_end bound (drop i places) ≡ None
    run_none zero bound place i parted past within equal = takes_none bound place i parted (omega (arith, past)) (omega (arith, within)) (equal i (le_refl i) (omega arith))
    run_none (suc m) bound place i parted past within equal =
        elim (cases_lt place (length positions)) as (λ _. soonest_end bound (drop i places) ≡ None) [
          | inl lt ↦ takes bound place i parted lt (omega (arith, within)) (equal i (le_refl i) (omega arith))
              ∙ run_none m (get_or positions place 0 + 1) (place + 1) (i + 1) (next_parted place lt) (omega (arith, past)) (omega (arith, within)) (λ j le less. equal j (omega (arith, le)) (omega (arith, less)))
          | inr none ↦ takes_none bound place i parted none (omega (arith, within)) (equal i (le_refl i) (omega arith))
        ]
