-- Numbers whose terms rise, and where a key parts them.
use Rattle.std.proofs.Common.{◌≡◌, ℕ, Bool, true, false, List, [], ◌∷◌, ◌++◌, sym, ap, ◌∙◌, refl}
use Rattle.std.specs.declared.cmp.Ordering.{Ordering}
use Rattle.std.specs.declared.cmp.Ordering.TheVariants.{Less, Equal, Greater}
use Rattle.std.proofs.lemmas.Cmp.{nat_list_cmp_total, alike_right}
use Rattle.sk_dict.specs.Terms.{term_at, term_cmp, Precedes}
use Rattle.sk_dict.specs.Searches.{passed, stands_before, passes}
use Rattle.sk_dict.specs.Order.{Each, IsRising}
use Rattle.sk_dict.proofs.EachLemmas.{Each-append, Each-front, Each-rest, Each-map, IsIn-put, Each-in}

-- what stands before a passed term is passed, by how that one stands to the key
passed_by : (a b key : List ℕ) (behind : Bool) (o : Ordering) → term_cmp b key ≡ o → Precedes a b → passed behind o ≡ true → stands_before key behind a ≡ true
passed_by a b key behind Less e p h = ap (passed behind) (nat_list_cmp_total.trans a b key p e)
passed_by a b key behind Equal e p h = ap (passed behind) (sym (alike_right nat_list_cmp_total b key a e) ∙ p)
passed_by a b key behind Greater e p h = cc

-- what stands before a passed term is passed
pub passed_before : (a b key : List ℕ) (behind : Bool) → Precedes a b → stands_before key behind b ≡ true → stands_before key behind a ≡ true
passed_before a b key behind p h = passed_by a b key behind (term_cmp b key) refl p h

-- by whether the later term is passed
left_by : (a b key : List ℕ) (behind v : Bool) → stands_before key behind b ≡ v → Precedes a b → stands_before key behind a ≡ false → v ≡ false
left_by a b key behind true e p h = sym (passed_before a b key behind p e) ∙ h
left_by a b key behind false e p h = refl

-- what stands behind a term that is not passed is not passed
pub left_behind : (a b key : List ℕ) (behind : Bool) → Precedes a b → stands_before key behind a ≡ false → stands_before key behind b ≡ false
left_behind a b key behind p h = left_by a b key behind (stands_before key behind b) refl p h

-- the first of two parts rises
pub IsRising-front : (terms : List (List ℕ)) (xs ys : List ℕ) → IsRising terms (xs ++ ys) → IsRising terms xs
IsRising-front terms [] ys r = tt
IsRising-front terms (x ∷ xs) ys r = (Each-front (λ m. Precedes (term_at terms x) (term_at terms m)) xs ys r.0, IsRising-front terms xs ys r.1)

-- and the second
pub IsRising-rest : (terms : List (List ℕ)) (xs ys : List ℕ) → IsRising terms (xs ++ ys) → IsRising terms ys
IsRising-rest terms [] ys r = r
IsRising-rest terms (x ∷ xs) ys r = IsRising-rest terms xs ys r.1

-- a number whose term stands between two parts may be put there
pub IsRising-put : (terms : List (List ℕ)) (xs ys : List ℕ) (n : ℕ) → IsRising terms (xs ++ ys)
    → Each (λ m. Precedes (term_at terms m) (term_at terms n)) xs → Each (λ m. Precedes (term_at terms n) (term_at terms m)) ys → IsRising terms (xs ++ n ∷ ys)
IsRising-put terms [] ys n r f g = (g, r)
IsRising-put terms (x ∷ xs) ys n r f g =
    let P : ℕ → Type 0 = λ m. Precedes (term_at terms x) (term_at terms m) in
    (Each-append P xs (n ∷ ys) (Each-front P xs ys r.0) (f.0, Each-rest P xs ys r.0), IsRising-put terms xs ys n r.1 f.1 g)

module _ (terms : List (List ℕ)) (key : List ℕ) (behind : Bool) where
  -- what stands before a number that passes, passes
  pub front_passes : (xs ys : List ℕ) (x : ℕ) → IsRising terms (xs ++ x ∷ ys) → passes terms key behind x ≡ true → Each (λ n. passes terms key behind n ≡ true) xs
  front_passes [] ys x r h = tt
  front_passes (y ∷ xs) ys x r h = (
    passed_before (term_at terms y) (term_at terms x) key behind (Each-in (λ m. Precedes (term_at terms y) (term_at terms m)) (xs ++ x ∷ ys) x (IsIn-put xs ys x) r.0) h,
    front_passes xs ys x r.1 h,
  )

  -- a number that does not pass, and what stands behind it
  pub rest_is_left : (xs ys : List ℕ) (x : ℕ) → IsRising terms (xs ++ x ∷ ys) → passes terms key behind x ≡ false → Each (λ n. passes terms key behind n ≡ false) (x ∷ ys)
  rest_is_left [] ys x r h = (h, Each-map (λ m. Precedes (term_at terms x) (term_at terms m)) (λ n. passes terms key behind n ≡ false) ys (λ m p. left_behind (term_at terms x) (term_at terms m) key behind p h) r.0)
  rest_is_left (y ∷ xs) ys x r h = rest_is_left xs ys x r.1 h
