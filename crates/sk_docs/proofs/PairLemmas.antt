-- What holds of each item of a list and each later one.
use Rattle.std.proofs.Common.{◌≡◌, suc, Bool, true, false, List, [], ◌∷◌, ◌++◌, filter, cond, refl, sym, subst, ◌∙◌, true≢false, All, AllPairs, arith}
use Rattle.std.proofs.lemmas.List.Elements.{All-head, All-tail, All-cons}
use Rattle.std.proofs.lemmas.List.Kept.{AllPairs-cons}

module _ {X : Type 0} (R : X → X → Type 0) where
  pub pairs_head : (x : X) (xs : List X) → AllPairs R (x ∷ xs) → All (R x) xs
  pairs_head x xs all k d lt = all 0 (suc k) d (omega arith) (omega arith)

  pub pairs_tail : (x : X) (xs : List X) → AllPairs R (x ∷ xs) → AllPairs R xs
  pairs_tail x xs all i j d lt within = all (suc i) (suc j) d (omega arith) (omega arith)

  kept_tail : (x : X) (xs : List X) (b : Bool) → AllPairs R (cond b (x ∷ xs) xs) → AllPairs R xs
  kept_tail x xs true all = pairs_tail x xs all
  kept_tail x xs false all = all

-- what holds of all that pass a test
all_step : {X : Type 0} (P : X → Type 0) (p : X → Bool) (x : X) (xs kept : List X) (b : Bool) → p x ≡ b → All P (cond b (x ∷ kept) kept) → (All P kept → All (λ y. p y ≡ true → P y) xs)
    → All (λ y. p y ≡ true → P y) (x ∷ xs)
all_step P p x xs kept true e all more = All-cons (λ y. p y ≡ true → P y) x xs (λ _. All-head P x kept all) (more (All-tail P x kept all))
all_step P p x xs kept false e all more = All-cons (λ y. p y ≡ true → P y) x xs (λ passes. absurd (true≢false (sym passes ∙ e))) (more all)

all_passing : {X : Type 0} (P : X → Type 0) (p : X → Bool) (xs : List X) → All P (filter p xs) → All (λ y. p y ≡ true → P y) xs
all_passing P p [] all = λ k d lt. absurd (omega arith)
all_passing P p (x ∷ xs) all = all_step P p x xs (filter p xs) (p x) refl all (all_passing P p xs)

-- what holds of each pair among those that tie with any item, holds of each pair that ties
pub pairs_that_tie : {X : Type 0} (R : X → X → Type 0) (tie : X → X → Bool) (xs : List X) → ((x : X) → tie x x ≡ true) → ((x : X) → AllPairs R (filter (tie x) xs))
    → AllPairs (λ a b. tie a b ≡ true → R a b) xs
pairs_that_tie R tie [] own all = λ i j d lt within. absurd (omega arith)
pairs_that_tie R tie (x ∷ xs) own all =
    AllPairs-cons (λ a b. tie a b ≡ true → R a b) x xs
    (all_passing (R x) (tie x) xs (pairs_head R x (filter (tie x) xs) (subst (λ b. AllPairs R (cond b (x ∷ filter (tie x) xs) (filter (tie x) xs))) (own x) (all x))))
    (pairs_that_tie R tie xs own (λ y. kept_tail R x (filter (tie y) xs) (tie y x) (all y)))

all_middle : {X : Type 0} (P : X → Type 0) (xs : List X) (x : X) (ys : List X) → All P (xs ++ x ∷ ys) → P x
all_middle P [] x ys all = All-head P x ys all
all_middle P (y ∷ xs) x ys all = all_middle P xs x ys (All-tail P y (xs ++ x ∷ ys) all)

-- all that stand before an item
pub pairs_before : {X : Type 0} (R : X → X → Type 0) (xs : List X) (x : X) (ys : List X) → AllPairs R (xs ++ x ∷ ys) → All (λ y. R y x) xs
pairs_before R [] x ys all = λ k d lt. absurd (omega arith)
pairs_before R (y ∷ xs) x ys all =
    All-cons (λ z. R z x) y xs (all_middle (R y) xs x ys (pairs_head R y (xs ++ x ∷ ys) all)) (pairs_before R xs x ys (pairs_tail R y (xs ++ x ∷ ys) all))
