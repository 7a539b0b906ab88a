-- A filter goes to the group of its field.
use Rattle.std.proofs.Common.{◌≡◌, ℕ, Bool, true, false, ◌==◌, if◌then◌else◌, List, [], ◌∷◌, ◌++◌, Option, Some, None, refl, sym, ap, ◌∙◌, append_assoc, arith}
use Rattle.std.proofs.lemmas.Bool.Decides.{nat_tests}
use Rattle.sk_query.specs.Trees.{Tree}
use Rattle.sk_grammar.specs.Runs.{FilterGroup, added}
use Rattle.sk_parser.specs.Views.{added_or}

-- The group of another field stays, with what is left for those behind it.
pub other_field : (g : FilterGroup) (f : ℕ) (left : Option Tree) (rest : List FilterGroup) → (FilterGroup.field g ≡ f → ⊥) → g ∷ added_or f left rest ≡ added_or f left (g ∷ rest)
other_field g f None rest h = refl
other_field g f (Some t) rest h = by (FilterGroup.field g == f) refl
  where
    by : (b : Bool) → (FilterGroup.field g == f) ≡ b → g ∷ added f t rest ≡ (if b then record { field = FilterGroup.field g; queries = FilterGroup.queries g ++ t ∷ [] } ∷ rest else g ∷ added f t rest)
    by true e = absurd (h (grind (arith, nat_tests)))
    by false e = refl

-- The group of the same field takes it.
pub same_field : (g : FilterGroup) (f : ℕ) (left : Option Tree) (t : Tree) (made : List Tree) (rest : List FilterGroup) → FilterGroup.field g ≡ f → left ≡ Some t → made ≡ FilterGroup.queries g ++ t ∷ []
    → record { field = f; queries = made } ∷ rest ≡ added_or f left (g ∷ rest)
same_field g f left t made rest h e m = (λ i. record { field = sym h i; queries = m i } ∷ rest) ∙ by (FilterGroup.field g == f) refl ∙ ap (λ o. added_or f o (g ∷ rest)) (sym e)
  where
    by : (b : Bool) → (FilterGroup.field g == f) ≡ b
        → record { field = FilterGroup.field g; queries = FilterGroup.queries g ++ t ∷ [] } ∷ rest ≡ (if b then record { field = FilterGroup.field g; queries = FilterGroup.queries g ++ t ∷ [] } ∷ rest else g ∷ added f t rest)
    by true k = refl
    by false k = absurd (grind (arith, nat_tests))

-- Nothing is left.
pub none_left : (g : FilterGroup) (f : ℕ) (left : Option Tree) (rest : List FilterGroup) → left ≡ None → g ∷ rest ≡ added_or f left (g ∷ rest)
none_left g f left rest e = ap (λ o. added_or f o (g ∷ rest)) (sym e)

-- One group more is made.
pub taken : (all made more : List FilterGroup) (g h : FilterGroup) (f : ℕ) (left next : Option Tree) (rest : List FilterGroup) → more ≡ made ++ h ∷ [] → h ∷ added_or f next rest ≡ added_or f left (g ∷ rest)
    → made ++ added_or f left (g ∷ rest) ≡ all → more ++ added_or f next rest ≡ all
taken all made more g h f left next rest e k whole =
    ap (λ gs. gs ++ added_or f next rest) e ∙ append_assoc made (h ∷ []) (added_or f next rest) ∙ ap (λ gs. made ++ gs) k ∙ whole
