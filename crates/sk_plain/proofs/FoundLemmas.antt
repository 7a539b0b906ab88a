-- One document more of those that were looked at.
use Rattle.std.proofs.Common.{◌≡◌, ℕ, suc, List, [], ◌∷◌, ◌++◌, Some, None, All, sym, ap, refl, ◌∙◌, subst, arith}
use Rattle.std.specs.List.{cons_option}
use Rattle.sk_base.specs.declared.doc.Doc.{Doc}
use Rattle.sk_base.specs.declared.find.Scheme.{Scheme}
use Rattle.sk_base.specs.declared.rank.Order.{Order}
use Rattle.sk_base.specs.declared.rank.Rank.{Rank}
use Rattle.sk_query.specs.Trees.{Tree}
use Rattle.sk_model.specs.Matches.{rank_of, matches}
use Rattle.sk_base.specs.Loads.{IsLight}

pub one_more : {X : Type 0} (xs ys : List X) (x : X) → (xs ++ x ∷ []) ++ ys ≡ xs ++ x ∷ ys
one_more [] ys x = refl
one_more (z ∷ xs) ys x = ap (λ zs. z ∷ zs) (one_more xs ys x)

pub rest_light : (one : ℕ × Doc) (rest : List (ℕ × Doc)) → All IsLight (one ∷ rest) → All IsLight rest
rest_light one rest h = λ k d l. h (suc k) d (omega arith)

pub some_step : (tree : Tree) (scheme : Scheme) (order : Order) (xs next whole : List Rank) (x : Rank) (one : ℕ × Doc) (left rest : List (ℕ × Doc))
    → left ≡ one ∷ rest → Some x ≡ rank_of tree scheme order one → next ≡ xs ++ x ∷ []
    → (xs ++ matches tree scheme order left ≡ whole) × All IsLight left
    → (next ++ matches tree scheme order rest ≡ whole) × All IsLight rest
some_step tree scheme order xs next whole x one left rest is found grown h = (
  ap (λ ys. ys ++ matches tree scheme order rest) grown
      ∙ one_more xs (matches tree scheme order rest) x
      ∙ ap (λ o. xs ++ cons_option o (matches tree scheme order rest)) found
      ∙ ap (λ b. xs ++ matches tree scheme order b) (sym is)
      ∙ h.0,
  rest_light one rest (subst (All IsLight) is h.1),
)

pub none_step : (tree : Tree) (scheme : Scheme) (order : Order) (xs whole : List Rank) (one : ℕ × Doc) (left rest : List (ℕ × Doc))
    → left ≡ one ∷ rest → None ≡ rank_of tree scheme order one
    → (xs ++ matches tree scheme order left ≡ whole) × All IsLight left
    → (xs ++ matches tree scheme order rest ≡ whole) × All IsLight rest
none_step tree scheme order xs whole one left rest is found h = (
  ap (λ o. xs ++ cons_option o (matches tree scheme order rest)) found
      ∙ ap (λ b. xs ++ matches tree scheme order b) (sym is)
      ∙ h.0,
  rest_light one rest (subst (All IsLight) is h.1),
)
