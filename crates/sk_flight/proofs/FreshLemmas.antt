-- A number above those of all entries is not found.
use Rattle.std.proofs.Common.{◌≡◌, ◌≤◌, ◌<◌, ℕ, false, cond, List, [], ◌∷◌, map, Option, Some, None, Ordering, refl, ap, ◌∙◌, arith}
use Rattle.std.specs.List.{AllByRecursion}
use Rattle.std.specs.Ordering.{nat_cmp, is_eq, MatchOrdering}
use Rattle.std.specs.declared.cmp.Ordering.TheVariants.{Less, Equal, Greater}
use Rattle.std.specs.Map.{lookup}
use Rattle.std.proofs.lemmas.Cmp.{ranked}
use Rattle.sk_report.specs.Flights.{at}

apart_by : (n k : ℕ) (r : Ordering) → MatchOrdering r (n < k) (n ≡ k) (k < n) → k < n → is_eq r ≡ false
apart_by n k Less h above = refl
apart_by n k Equal h above = absurd (omega (arith, h, above))
apart_by n k Greater h above = refl

apart : (n k : ℕ) → k < n → at n k ≡ false
apart n k above = apart_by n k (nat_cmp n k) (ranked n k (nat_cmp n k) refl) above

module _ {X Y : Type 0} (f : X → Y) (opened number : ℕ) (above : opened < number) where
  pub none_above : (es : List (ℕ × X)) → AllByRecursion (λ (e : ℕ × X). e.0 ≤ opened) es → lookup (at number) (map (λ (e : ℕ × X). (e.0, f e.1)) es) ≡ None
  none_above [] all = refl
  none_above (e ∷ es) all =
      let low = all.0 in
      ap (λ b. cond b (Some (f e.1)) (lookup (at number) (map (λ (e : ℕ × X). (e.0, f e.1)) es))) (apart number e.0 (omega (arith, above, low))) ∙ none_above es all.1
