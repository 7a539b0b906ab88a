-- What ends at rising ids.
use Rattle.std.proofs.Common.{ℕ, zero, suc, ◌<◌, ◌≤◌, List, [], ◌∷◌, length, get_or, arith}
use Rattle.sk_sorted.specs.Entries.{RiseAbove, top_id}
use Rattle.sk_sorted.specs.Ends.{EndsRise}
use Rattle.sk_sorted.specs.Runs.{RunsRise, AreRuns}

module _ {R : Type 0} where
  from_low : (end : R → ℕ) (low : ℕ) (rs : List R) (k : ℕ) (r : R) → EndsRise end low rs → k < length rs → low ≤ end (get_or rs k r)
  from_low end low [] k r up lt = absurd (omega arith)
  from_low end low (s ∷ rs) zero r up lt = up.0
  from_low end low (s ∷ rs) (suc k) r up lt = omega (arith, up.0, from_low end (end s) rs k r up.1 (omega arith))

  -- none ends before one that it follows
  pub ends_up : (end : R → ℕ) (low : ℕ) (rs : List R) (j k : ℕ) (r : R) → EndsRise end low rs → j ≤ k → k < length rs → end (get_or rs j r) ≤ end (get_or rs k r)
  ends_up end low [] j k r up le lt = absurd (omega arith)
  ends_up end low (s ∷ rs) zero zero r up le lt = omega arith
  ends_up end low (s ∷ rs) zero (suc k) r up le lt = from_low end (end s) rs k r up.1 (omega arith)
  ends_up end low (s ∷ rs) (suc j) zero r up le lt = absurd (omega arith)
  ends_up end low (s ∷ rs) (suc j) (suc k) r up le lt = ends_up end (end s) rs j k r up.1 (omega arith) (omega arith)

  -- where one ends below the target, so do those before it
  pub ends_below : (end : R → ℕ) (low : ℕ) (rs : List R) (target m k : ℕ) (r : R) → EndsRise end low rs → m < length rs → end (get_or rs m r) < target → k ≤ m → end (get_or rs k r) < target
  ends_below end low rs target m k r up lt below le = omega (arith, ends_up end low rs k m r up le lt, below)

module _ {X : Type 0} where
  top_above : (low : ℕ) (es : List (ℕ × X)) → RiseAbove low es → low ≤ top_id low es
  top_above low [] up = omega arith
  top_above low (e ∷ es) up = omega (arith, up.0, top_above e.0 es up.1)

  -- runs end at rising ids
  runs_end : (low : ℕ) (rs : List (List (ℕ × X))) → RunsRise low rs → EndsRise (top_id 0) low rs
  runs_end low [] up = tt
  runs_end low ([] ∷ rs) up = absurd (omega (arith, up.1.0))
  runs_end low ((e ∷ es) ∷ rs) up = (omega (arith, up.0.0, top_above e.0 es up.0.1), runs_end (top_id e.0 es) rs up.1.1)

  pub runs_rise : (rs : List (List (ℕ × X))) → AreRuns rs → EndsRise (top_id 0) 0 rs
  runs_rise rs are = runs_end 0 rs are.rise

  -- and so do entries in order
  pub entries_rise : (low : ℕ) (es : List (ℕ × X)) → RiseAbove low es → EndsRise (λ e. e.0) low es
  entries_rise low [] up = tt
  entries_rise low (e ∷ es) up = (omega (arith, up.0), entries_rise e.0 es up.1)
