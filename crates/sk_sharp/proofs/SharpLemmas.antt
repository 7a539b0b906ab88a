-- The least of the numbers of steps, and the lesser of the two ways round of two lists.
use Rattle.std.proofs.Common.{◌≡◌, ◌<◌, ◌≤◌, ◌^◌, min, ℕ, true, List, [], ◌∷◌, length, get_or, All, Option, Some, sym, ap, ◌∙◌, arith}
use Rattle.sk_base.specs.declared.find.Paging.{Paging}
use Rattle.sk_base.specs.declared.find.Scheme.{Scheme}
use Rattle.sk_base.specs.Loads.{IsLight}
use Rattle.sk_base.specs.Numbers.{Docs}
use Rattle.sk_query.specs.Trees.{Tree, term}
use Rattle.sk_query.specs.Fits.{is_sound, leaves_of}
use Rattle.sk_model.specs.Bounds.{ceil}
use Rattle.sk_model.specs.Allowance.{allowance}
use Rattle.sk_model.specs.Matches.{found_by}
use Rattle.sk_model.specs.Settled.{decay_point}
use Rattle.sk_model.specs.Sharp.{stop_number, rare_number, decay_readings, decay_of, decay_number, at_most, sharp}
use Rattle.sk_model.proofs.WeightLaws.{ceil_small}

-- one more than the greatest weight fits
pub one_more_fits : (q : Tree) (scheme : Scheme) (held docs : Docs) (most : ℕ) → most ≡ ceil q scheme 1 held → held ≡ docs
    → is_sound 1 q ≡ true → leaves_of q ≤ 1024 → All IsLight docs → most < 2 ^ 127
one_more_fits q scheme held docs most is same sound few light =
    let small : ceil q scheme 1 docs ≤ 2 ^ 84 = ceil_small scheme docs light q 1 sound (omega arith) few in
    omega (arith, is ∙ ap (ceil q scheme 1) same, small)

-- a list of two
pub two_there : (lists : List (List ℕ)) (a b : List ℕ) → 2 ≤ length lists → length lists < 3 → a ≡ get_or lists 0 a → b ≡ get_or lists 1 b → lists ≡ a ∷ b ∷ []
two_there [] a b low high first second = absurd (omega arith)
two_there (x ∷ []) a b low high first second = absurd (omega arith)
two_there (x ∷ y ∷ []) a b low high first second = λ i. sym first i ∷ (sym second i ∷ [])
two_there (x ∷ y ∷ z ∷ more) a b low high first second = absurd (omega arith)

module _ (query : Tree) (paging : Paging) (docs : Docs) (hits : ℕ) where
  pub decay_is : (lists : Option (List (List ℕ))) (a b : List ℕ) (behind_a behind_b first second n : ℕ) → lists ≡ Some (a ∷ b ∷ [])
      → behind_b ≡ decay_point query (term b) paging docs → behind_a ≡ decay_point query (term a) paging docs
      → first ≡ decay_readings a b behind_b docs hits → second ≡ decay_readings b a behind_a docs hits → n ≡ min first second
      → Some n ≡ decay_of query paging docs hits lists
  decay_is lists a b behind_a behind_b first second n is of_b of_a one two lesser =
      ap Some (lesser ∙ (λ i. min (one i) (two i)) ∙ (λ i. min (decay_readings a b (of_b i) docs hits) (decay_readings b a (of_a i) docs hits)))
      ∙ ap (decay_of query paging docs hits) (sym is)

  pub sharp_is : (matching all one two three : ℕ) (stop rare decay : Option ℕ) → matching ≡ length (found_by query paging docs)
      → all ≡ allowance query paging docs matching hits → stop ≡ stop_number query paging docs hits
      → rare ≡ rare_number query paging docs matching hits → decay ≡ decay_number query paging docs hits
      → one ≡ at_most all stop → two ≡ at_most one rare → three ≡ at_most two decay → three ≡ sharp query paging docs hits
  sharp_is matching all one two three stop rare decay found of_all of_stop of_rare of_decay least_one least_two least_three =
      let first = least_one ∙ (λ i. at_most ((of_all ∙ ap (λ n. allowance query paging docs n hits) found) i) (of_stop i)) in
      let second = least_two ∙ (λ i. at_most (first i) ((of_rare ∙ ap (λ n. rare_number query paging docs n hits) found) i)) in
      least_three ∙ (λ i. at_most (second i) (of_decay i))
