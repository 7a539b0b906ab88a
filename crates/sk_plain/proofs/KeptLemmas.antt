-- One item more of a list, and one ordered match more of those that were looked at.
use Rattle.std.proofs.Common.{◌≡◌, ◌<◌, ◌+◌, ℕ, true, false, cond, List, [], ◌∷◌, ◌++◌, length, drop, map, get_or, sym, ap, ◌∙◌}
use Rattle.std.proofs.lemmas.List.{at_drop_more}
use Rattle.sk_base.specs.declared.rank.Rank.{Rank}
use Rattle.sk_model.specs.Page.{is_kept, kept_behind}
use Rattle.sk_plain.proofs.FoundLemmas.{one_more}

-- the item at a place, and those behind it
pub cut : {X : Type 0} (xs : List X) (i : ℕ) (x : X) → i < length xs → x ≡ get_or xs i x → drop i xs ≡ x ∷ drop (i + 1) xs
cut xs i x l is = at_drop_more (λ ys. ys) xs i x l ∙ ap (λ y. y ∷ drop (i + 1) xs) (sym is)

-- what a function gives of one item more
pub map_more : {X Y : Type 0} (f : X → Y) (ys next whole : List Y) (left rest : List X) (x : X) (y : Y)
    → left ≡ x ∷ rest → y ≡ f x → next ≡ ys ++ y ∷ [] → ys ++ map f left ≡ whole → next ++ map f rest ≡ whole
map_more f ys next whole left rest x y is same grown h =
    ap (λ zs. zs ++ map f rest) grown ∙ one_more ys (map f rest) y ∙ ap (λ z. ys ++ z ∷ map f rest) same ∙ ap (λ l. ys ++ map f l) (sym is) ∙ h

module _ (most : ℕ) (key : Rank → List ℕ) where
  pub kept_more : (xs next whole left rest : List Rank) (x : Rank) (before after : List (List ℕ))
      → left ≡ x ∷ rest → true ≡ is_kept most (key x) before → next ≡ xs ++ x ∷ [] → after ≡ key x ∷ before
      → xs ++ kept_behind most key before left ≡ whole → next ++ kept_behind most key after rest ≡ whole
  kept_more xs next whole left rest x before after is found grown more h =
      (λ i. grown i ++ kept_behind most key (more i) rest)
      ∙ one_more xs (kept_behind most key (key x ∷ before) rest) x
      ∙ ap (λ b. xs ++ cond b (x ∷ kept_behind most key (key x ∷ before) rest) (kept_behind most key before rest)) found
      ∙ ap (λ l. xs ++ kept_behind most key before l) (sym is)
      ∙ h

  pub kept_none : (xs whole left rest : List Rank) (x : Rank) (before : List (List ℕ))
      → left ≡ x ∷ rest → false ≡ is_kept most (key x) before
      → xs ++ kept_behind most key before left ≡ whole → xs ++ kept_behind most key before rest ≡ whole
  kept_none xs whole left rest x before is found h =
      ap (λ b. xs ++ cond b (x ∷ kept_behind most key (key x ∷ before) rest) (kept_behind most key before rest)) found
      ∙ ap (λ l. xs ++ kept_behind most key before l) (sym is)
      ∙ h
