-- What is made of bounds, one after the other, is made of the list.
use Rattle.std.proofs.Common.{◌≡◌, ◌≤◌, ◌<◌, ◌+◌, ◌-◌, ◌^◌, ℕ, suc, min, max, nat_lt, if◌then◌else◌, unwrap_or, List, [], ◌∷◌, length, drop, get_or, map, Some, refl, sym, ap, ◌∙◌, subst, arith, drop-cons, add-one}
use Rattle.std.proofs.lemmas.Bool.Decides.{nat_tests}
use Rattle.std.proofs.lemmas.List.{drop_all}
use Rattle.sk_base.specs.declared.find.Scheme.{Scheme}
use Rattle.std.specs.Option.{option_or}
use Rattle.sk_model.specs.Bounds.{joint_ceil, sum_in, greatest_in, least_in, first_in}
use Rattle.sk_model.specs.Weights.{weigh_by}
use Rattle.sk_weight.specs.declared.together.Together.{Together}
use Rattle.sk_weight.specs.Together.{nothing_yet, least_with, with_bound, with_bounds, IsTogether}

first_after : (v : ℕ) (t : Together) (bs : List ℕ) → t.first ≡ Some v → unwrap_or (with_bounds t bs).first 0 ≡ v
first_after v t [] h = ap (λ o. unwrap_or o 0) h
first_after v t (b ∷ bs) h = first_after v (with_bound t b) bs (ap (λ o. option_or o (Some b)) h)

lesser : (l b : ℕ) (bs : List ℕ) → least_in (min l b ∷ bs) ≡ min l (least_in (b ∷ bs))
lesser l b [] = refl
lesser l b (c ∷ bs) = omega arith

least_after : (l : ℕ) (t : Together) (bs : List ℕ) → t.least ≡ Some l → unwrap_or (with_bounds t bs).least 0 ≡ least_in (l ∷ bs)
least_after l t [] h = ap (λ o. unwrap_or o 0) h
least_after l t (b ∷ bs) h = least_after (min l b) (with_bound t b) bs (ap (λ o. Some (least_with o b)) h) ∙ lesser l b bs

greatest_after : (t : Together) (bs : List ℕ) → (with_bounds t bs).greatest ≡ max t.greatest (greatest_in bs)
greatest_after t [] = omega arith
greatest_after t (b ∷ bs) = greatest_after (with_bound t b) bs ∙ greater t.greatest b (greatest_in bs)
  where
    greater : (a b c : ℕ) → max (max a b) c ≡ max a (max b c)
    greater a b c = omega arith

sum_after : (t : Together) (bs : List ℕ) → t.sum ≤ 2 ^ 128 - 1 → (with_bounds t bs).sum ≡ min (2 ^ 128 - 1) (t.sum + sum_in bs)
sum_after t [] h = omega (arith, h)
sum_after t (b ∷ bs) h = sum_after (with_bound t b) bs (omega arith) ∙ added t.sum b (sum_in bs)
  where
    added : (a b c : ℕ) → min (2 ^ 128 - 1) (min (2 ^ 128 - 1) (a + b) + c) ≡ min (2 ^ 128 - 1) (a + (b + c))
    added a b c = omega arith

first_of_all : (bs : List ℕ) → unwrap_or (with_bounds nothing_yet bs).first 0 ≡ first_in bs
first_of_all [] = refl
first_of_all (b ∷ bs) = first_after b (with_bound nothing_yet b) bs refl

least_of_all : (bs : List ℕ) → unwrap_or (with_bounds nothing_yet bs).least 0 ≡ least_in bs
least_of_all [] = refl
least_of_all (b ∷ bs) = least_after b (with_bound nothing_yet b) bs refl

nothing_less : (n : ℕ) → max 0 n ≡ n
nothing_less n = omega arith

nothing_more : (n : ℕ) → 0 + n ≡ n
nothing_more n = omega arith

all_together : (bs : List ℕ) → IsTogether (with_bounds nothing_yet bs) bs
all_together bs = record {
  first = first_of_all bs;
  least = least_of_all bs;
  greatest = greatest_after nothing_yet bs ∙ nothing_less (greatest_in bs);
  sum = sum_after nothing_yet bs (omega arith) ∙ ap (min (2 ^ 128 - 1)) (nothing_more (sum_in bs));
}

-- what a loop over a list ends with
pub end_together : {X : Type 0} (f : List X → List ℕ) (t : Together) (xs : List X) (i : ℕ) → f [] ≡ [] → length xs ≤ i → with_bounds t (f (drop i xs)) ≡ with_bounds nothing_yet (f xs) → IsTogether t (f xs)
end_together {X} f t xs i none over so =
    let done : t ≡ with_bounds nothing_yet (f xs) = sym (ap (λ (ys : List X). with_bounds t (f ys)) (drop_all i xs over) ∙ ap (with_bounds t) none) ∙ so in
    subst (λ u. IsTogether u (f xs)) (sym done) (all_together (f xs))

-- one element more
pub more_together : {X : Type 0} (f : X → ℕ) (t next : Together) (b : ℕ) (xs : List X) (i : ℕ) (x : X) (whole : Together) → i < length xs → x ≡ get_or xs i x → b ≡ f x → next ≡ with_bound t b
    → with_bounds t (map f (drop i xs)) ≡ whole → with_bounds next (map f (drop (i + 1) xs)) ≡ whole
more_together f t next b xs i x whole inside is own grown so =
    let cut : drop i xs ≡ x ∷ drop (i + 1) xs = rw (add-one) (drop-cons xs i x inside ∙ ap (λ w. w ∷ drop (suc i) xs) (sym is)) in
    ap (λ u. with_bounds u (map f (drop (i + 1) xs))) (grown ∙ ap (with_bound t) own) ∙ ap (λ ys. with_bounds t (map f ys)) (sym cut) ∙ so

is_long : (n : ℕ) → nat_lt 0 (min (2 ^ 128 - 1) n) ≡ nat_lt 0 n
is_long n = grind (arith, nat_tests)

-- as far as 128 bits go is far enough for words as one, and for what is no more than the documents
pub joint_same : (scheme : Scheme) (factor long greatest l g : ℕ) → long ≡ min (2 ^ 128 - 1) l → greatest ≡ min (2 ^ 128 - 1) g → joint_ceil scheme factor long greatest ≡ joint_ceil scheme factor l g
joint_same scheme factor long greatest l g e f =
    let most : min (2 ^ 29 - 1) greatest ≡ min (2 ^ 29 - 1) g = omega (arith, f) in
    (λ i. joint_ceil scheme factor (e i) greatest)
    ∙ (λ i. if is_long l i then weigh_by factor scheme (most i) else 0)

pub capped_same : (n sum total live : ℕ) → n ≡ min sum live → sum ≡ min (2 ^ 128 - 1) total → live < 2 ^ 32 → n ≡ min live total
capped_same n sum total live e f few = omega (arith, e, f, few)
