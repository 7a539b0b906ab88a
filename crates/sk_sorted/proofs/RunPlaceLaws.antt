-- Places in runs: what stands behind one, and what it is to go on.
use Rattle.std.proofs.Common.{◌≡◌, ℕ, zero, suc, ◌+◌, ◌-◌, ◌<◌, ◌≤◌, List, [], ◌∷◌, ◌++◌, length, take, drop, get_or, refl, sym, ap, subst, ◌∙◌, arith, add-one}
use Rattle.std.proofs.lemmas.List.{length-append, drop-append-le, take_more, take_all}
use Rattle.std.proofs.Math.Seq.{drop-append-add}
use Rattle.sk_sorted.specs.Entries.{RiseAbove, top_id}
use Rattle.sk_sorted.specs.Runs.{flat, RunsRise, IsPlace}
use Rattle.sk_sorted.proofs.RunLaws.{flat-rise, flat-last}

module _ {X : Type 0} where
  -- behind a place stands the rest of its run, and then the runs behind that
  behind : (rs : List (List (ℕ × X))) (i read : ℕ) → i < length rs → read ≤ length (get_or rs i []) → drop (length (flat (take i rs)) + read) (flat rs) ≡ drop read (get_or rs i []) ++ flat (drop (suc i) rs)
  behind [] i read lt le = absurd (omega arith)
  behind (r ∷ rs) zero read lt le = let same : 0 + read ≡ read = omega arith in ap (λ n. drop n (r ++ flat rs)) same ∙ drop-append-le read r (flat rs) le
  behind (r ∷ rs) (suc i) read lt le =
      let more : length (r ++ flat (take i rs)) + read ≡ length r + (length (flat (take i rs)) + read) = omega (arith, length-append r (flat (take i rs))) in
      ap (λ n. drop n (r ++ flat rs)) more ∙ drop-append-add r (flat rs) (length (flat (take i rs)) + read) ∙ behind rs i read (omega arith) le

  pub place_drop : (rs : List (List (ℕ × X))) (i read passed : ℕ) → i < length rs → IsPlace rs i read passed → drop passed (flat rs) ≡ drop read (get_or rs i []) ++ flat (drop (i + 1) rs)
  place_drop rs i read passed lt at =
      ap (λ n. drop n (flat rs)) at.counted ∙ behind rs i read lt at.within ∙ ap (λ j. drop read (get_or rs i []) ++ flat (drop j rs)) (sym (add-one i))

  -- at the end nothing stands behind it
  pub place_end : (rs : List (List (ℕ × X))) (i read passed : ℕ) → length rs ≤ i → IsPlace rs i read passed → passed ≡ length (flat rs)
  place_end rs i read passed end at =
      let none : get_or rs i [] ≡ [] = past rs i end in
      let all : take i rs ≡ rs = take_all i rs end in
      omega (arith, at.counted, at.within, ap length none, ap (λ (s : List (List (ℕ × X))). length (flat s)) all)
    where
      past : (rs : List (List (ℕ × X))) (i : ℕ) → length rs ≤ i → get_or rs i [] ≡ []
      past [] i end = refl
      past (r ∷ rs) zero end = absurd (omega arith)
      past (r ∷ rs) (suc i) end = past rs i (omega arith)

  -- the place at the front
  pub place_start : (rs : List (List (ℕ × X))) → IsPlace rs 0 0 0
  place_start rs = record { bound = omega arith; within = omega arith; counted = refl }

  -- further on in the same run
  pub place_on : (rs : List (List (ℕ × X))) (i read passed next : ℕ) → IsPlace rs i read passed → read ≤ next → next ≤ length (get_or rs i []) → IsPlace rs i next (passed + (next - read))
  place_on rs i read passed next at le within = record { bound = at.bound; within = within; counted = omega (arith, at.counted) }

  -- at the front of the next run
  pub place_next : (rs : List (List (ℕ × X))) (i read passed : ℕ) → i < length rs → IsPlace rs i read passed → IsPlace rs (i + 1) 0 (passed + (length (get_or rs i []) - read))
  place_next rs i read passed lt at =
      let whole : length (flat (take (i + 1) rs)) ≡ length (flat (take i rs)) + length (get_or rs i [])
      = ap (λ (s : List (List (ℕ × X))). length (flat s)) (take_more rs i [] lt) ∙ ap length (flat-last (take i rs) (get_or rs i [])) ∙ length-append (flat (take i rs)) (get_or rs i []) in
      record { bound = omega arith; within = omega arith; counted = omega (arith, at.counted, at.within, whole) }

  -- no more is passed than there is
  pub place_within : (rs : List (List (ℕ × X))) (i read passed : ℕ) → IsPlace rs i read passed → passed ≤ length (flat rs)
  place_within rs i read passed at = omega (arith, at.counted, within rs i read at.within)
    where
      within : (rs : List (List (ℕ × X))) (i read : ℕ) → read ≤ length (get_or rs i []) → length (flat (take i rs)) + read ≤ length (flat rs)
      within [] zero read le = omega (arith, le)
      within [] (suc i) read le = omega (arith, le)
      within (r ∷ rs) zero read le = omega (arith, le, length-append r (flat rs))
      within (r ∷ rs) (suc i) read le = omega (arith, length-append r (flat rs), length-append r (flat (take i rs)), within rs i read le)

  -- the runs behind a run rise above its last id
  rises : (low : ℕ) (rs : List (List (ℕ × X))) (i : ℕ) → RunsRise low rs → i < length rs → RiseAbove (top_id 0 (get_or rs i [])) (flat (drop (suc i) rs))
  rises low [] i up lt = absurd (omega arith)
  rises low (r ∷ rs) zero up lt = flat-rise (top_id 0 r) rs up.1.1
  rises low (r ∷ rs) (suc i) up lt = rises (top_id 0 r) rs i up.1.1 (omega arith)

  pub rises_behind : (rs : List (List (ℕ × X))) (i : ℕ) → RunsRise 0 rs → i < length rs → RiseAbove (top_id 0 (get_or rs i [])) (flat (drop (i + 1) rs))
  rises_behind rs i up lt = subst (λ j. RiseAbove (top_id 0 (get_or rs i [])) (flat (drop j rs))) (sym (add-one i)) (rises 0 rs i up lt)
