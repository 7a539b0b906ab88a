-- Windows that have a position of each operand, and how a bound rises to the first.
use Rattle.std.proofs.Common.{◌≡◌, ℕ, zero, suc, ◌+◌, ◌-◌, ◌<◌, ◌≤◌, Bool, true, false, List, [], ◌∷◌, length, take, get_or, Some, None, refl, sym, ◌∙◌, arith, true≢false}
use Rattle.std.proofs.lemmas.Bool.{and_from}
use Rattle.std.proofs.lemmas.List.Folds.{list_any_at, list_all_more}
use Rattle.std.proofs.lemmas.Option.{same_Some}
use Rattle.std.specs.List.{list_any, list_all}
use Rattle.sk_base.proofs.Tests.{first_so, second_so}
use Rattle.sk_model.specs.Laws.{stand_within}
use Rattle.sk_model.specs.Positions.{is_near}
use Rattle.sk_model.proofs.NearLaws.{near_found, inside, is_inside, inside_from, inside_to}
use Rattle.sk_near.specs.Soonest.{first_from}
use Rattle.sk_near.specs.Windows.{WindowsFrom, HasNoWindow}
use Rattle.sk_near.proofs.SoonestLemmas.{any_at, first_is_one, first_is_least, first_none}

all_at : {X : Type 0} (f : X → Bool) (xs : List X) (i : ℕ) (d : X) → list_all f xs ≡ true → i < length xs → f (get_or xs i d) ≡ true
all_at f [] i d e lt = absurd (omega arith)
all_at f (x ∷ xs) zero d e lt = first_so (f x) (list_all f xs) e
all_at f (x ∷ xs) (suc i) d e lt = all_at f xs i d (second_so (f x) (list_all f xs) e) (omega arith)

-- all windows begin at 0 or behind
pub windows_anywhere : (window : ℕ) (places : List (List ℕ)) → WindowsFrom window 0 places
windows_anywhere window places p e = omega arith

module _ (window : ℕ) (places : List (List ℕ)) (low i : ℕ) (there : i < length places) where
  -- the operand's position in a window, by its place
  stands_at : (p : ℕ) → stand_within window p places ≡ true → (k : ℕ) × (k < length (get_or places i [])) × (inside window p (get_or (get_or places i []) k 0) ≡ true)
  stands_at p e = any_at (inside window p) (get_or places i []) (all_at (λ positions. list_any (inside window p) positions) places i [] e there)

  -- the operand has no position left
  pub no_window : WindowsFrom window low places → first_from low (get_or places i []) ≡ None → HasNoWindow window places
  no_window from none p =
      elim (stand_within window p places) as (λ b. stand_within window p places ≡ b → b ≡ false) [
        | true ↦ λ e.
            let at = stands_at p e in
            let above : low ≤ p = from p e in
            let behind : p ≤ get_or (get_or places i []) at.0 0 = inside_from window p _ at.2 in
            let below : get_or (get_or places i []) at.0 0 < low = first_none low (get_or places i []) at.0 none at.1 in
            absurd (omega arith)
        | false ↦ λ e. refl
      ] refl

  -- the windows reach its first position
  pub windows_reach : (q : ℕ) → WindowsFrom window low places → first_from low (get_or places i []) ≡ Some q → WindowsFrom window (q + 1 - window) places
  windows_reach q from is p e =
      let at = stands_at p e in
      let above : low ≤ p = from p e in
      let behind : p ≤ get_or (get_or places i []) at.0 0 = inside_from window p _ at.2 in
      let before : get_or (get_or places i []) at.0 0 < p + window = inside_to window p _ at.2 in
      let least = first_is_least low (get_or places i []) at.0 at.1 (omega arith) in
      let same : q ≡ least.0 = same_Some q least.0 (sym is ∙ least.1) in
      omega (arith, least.2)

  -- its first position lies in the window that begins at the bound
  pub stands_more : (q : ℕ) → first_from low (get_or places i []) ≡ Some q → q + 1 ≤ low + window → stand_within window low (take i places) ≡ true → stand_within window low (take (i + 1) places) ≡ true
  stands_more q is le e =
      let one = first_is_one low q (get_or places i []) is in
      list_all_more (λ positions. list_any (inside window low) positions) places i [] there
      ∙ and_from (stand_within window low (take i places)) (list_any (inside window low) (get_or places i [])) e
      (list_any_at (inside window low) (get_or places i []) one.0 0 one.1 (is_inside window low _ (omega (arith, one.2, one.3)) (omega (arith, one.2))))

-- where no window has a position of each operand, they do not stand near
pub not_near : (window : ℕ) (places : List (List ℕ)) → 1 ≤ window → HasNoWindow window places → is_near window places ≡ false
not_near window places wide none =
    elim (is_near window places) as (λ b. is_near window places ≡ b → b ≡ false) [
      | true ↦ λ e. let found = near_found window wide places e in absurd (true≢false (sym found.1 ∙ none found.0))
      | false ↦ λ e. refl
    ] refl
