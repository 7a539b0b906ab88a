-- What holds of each number of a list.
use Rattle.std.proofs.Common.{ℕ, List, [], ◌∷◌, ◌++◌, sym, subst, inl, inr}
use Rattle.sk_dict.specs.Order.{Each, IsIn}

-- of two lists, one behind the other
pub Each-append : (P : ℕ → Type 0) (xs ys : List ℕ) → Each P xs → Each P ys → Each P (xs ++ ys)
Each-append P [] ys e f = f
Each-append P (x ∷ xs) ys e f = (e.0, Each-append P xs ys e.1 f)

-- of the first of two lists
pub Each-front : (P : ℕ → Type 0) (xs ys : List ℕ) → Each P (xs ++ ys) → Each P xs
Each-front P [] ys e = tt
Each-front P (x ∷ xs) ys e = (e.0, Each-front P xs ys e.1)

-- of the second
pub Each-rest : (P : ℕ → Type 0) (xs ys : List ℕ) → Each P (xs ++ ys) → Each P ys
Each-rest P [] ys e = e
Each-rest P (x ∷ xs) ys e = Each-rest P xs ys e.1

-- what follows from a property
pub Each-map : (P Q : ℕ → Type 0) (xs : List ℕ) → ((n : ℕ) → P n → Q n) → Each P xs → Each Q xs
Each-map P Q [] f e = tt
Each-map P Q (x ∷ xs) f e = (f x e.0, Each-map P Q xs f e.1)

-- what follows from two
pub Each-both : (P Q R : ℕ → Type 0) (xs : List ℕ) → ((n : ℕ) → P n → Q n → R n) → Each P xs → Each Q xs → Each R xs
Each-both P Q R [] f e g = tt
Each-both P Q R (x ∷ xs) f e g = (f x e.0 g.0, Each-both P Q R xs f e.1 g.1)

-- of a number in the list
pub Each-in : (P : ℕ → Type 0) (xs : List ℕ) (x : ℕ) → IsIn x xs → Each P xs → P x
Each-in P [] x i e = absurd i
Each-in P (y ∷ ys) x (inl s) e = subst P (sym s) e.0
Each-in P (y ∷ ys) x (inr i) e = Each-in P ys x i e.1

-- a number that is put between two lists is in the whole
pub IsIn-put : (xs ys : List ℕ) (x : ℕ) → IsIn x (xs ++ x ∷ ys)
IsIn-put [] ys x = inl (λ _. x)
IsIn-put (y ∷ xs) ys x = inr (IsIn-put xs ys x)

-- and those that were in the two lists are there still
pub IsIn-keep : (xs ys : List ℕ) (x n : ℕ) → IsIn n (xs ++ ys) → IsIn n (xs ++ x ∷ ys)
IsIn-keep [] ys x n i = inr i
IsIn-keep (y ∷ xs) ys x n (inl s) = inl s
IsIn-keep (y ∷ xs) ys x n (inr i) = inr (IsIn-keep xs ys x n i)
