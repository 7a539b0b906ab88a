-- One document or one list more of those that were looked at.
use Rattle.std.proofs.Common.{◌≡◌, ◌≤◌, ◌+◌, ◌-◌, ◌*◌, ◌&&◌, min, not, ℕ, List, [], ◌∷◌, ◌++◌, length, get_or, take, drop, map, filter, sum_by, append_assoc, refl, sym, ap, ◌∙◌, arith}
use Rattle.std.proofs.lemmas.List.{drop_all, take_all}
use Rattle.std.proofs.lemmas.List.Sums.{sum_by-cons}
use Rattle.sk_base.specs.declared.doc.Doc.{Doc}
use Rattle.sk_base.specs.Documents.{begins_with}
use Rattle.sk_base.specs.Numbers.{Docs, length_of, some_has, term_in, terms_with}
use Rattle.sk_model.specs.Bounds.{sum_in, least_in}
use Rattle.sk_model.specs.Sharp.{rare_readings}

-- ---- the terms with a prefix

-- a document more
pub terms_more : (prefix : List ℕ) (xs next whole : List (List ℕ)) (one : ℕ × Doc) (left rest : Docs) → left ≡ one ∷ rest
    → next ≡ xs ++ filter (λ t. begins_with t prefix && not (some_has t rest)) (map term_in one.1.terms)
    → xs ++ terms_with prefix left ≡ whole → next ++ terms_with prefix rest ≡ whole
terms_more prefix xs next whole one left rest is grown h =
    ap (λ ys. ys ++ terms_with prefix rest) grown
    ∙ append_assoc xs (filter (λ t. begins_with t prefix && not (some_has t rest)) (map term_in one.1.terms)) (terms_with prefix rest)
    ∙ ap (λ d. xs ++ terms_with prefix d) (sym is)
    ∙ h

-- the lengths of the lists, added from either end
pub sum_is : (f : List ℕ → ℕ) (ts : List (List ℕ)) → sum_by f ts ≡ sum_in (map f ts)
sum_is f [] = refl
sum_is f (t ∷ ts) = sum_by-cons f t ts ∙ ap (λ n. f t + n) (sum_is f ts)

-- ---- the least

-- a number more
pub least_more : (b c : ℕ) (ns : List ℕ) → least_in (min b c ∷ ns) ≡ least_in (b ∷ c ∷ ns)
least_more b c [] = refl
least_more b c (d ∷ ns) = omega arith

-- a list more
pub least_step : (f : List ℕ → ℕ) (least n next whole : ℕ) (left rest : List (List ℕ)) (x : List ℕ) → left ≡ x ∷ rest → n ≡ f x → next ≡ min least n
    → least_in (least ∷ map f left) ≡ whole → least_in (next ∷ map f rest) ≡ whole
least_step f least n next whole left rest x is same grown h =
    ap (λ m. least_in (m ∷ map f rest)) (grown ∙ ap (min least) same)
    ∙ least_more least (f x) (map f rest)
    ∙ ap (λ l. least_in (least ∷ map f l)) (sym is)
    ∙ h

split_first : (ts : List (List ℕ)) (x : List ℕ) → 1 ≤ length ts → x ≡ get_or ts 0 x → ts ≡ x ∷ take (length ts - 1) (drop 1 ts)
split_first [] x some is = absurd (omega arith)
split_first (t ∷ ts) x some is = let rest : take (length (t ∷ ts) - 1) ts ≡ ts = take_all (length (t ∷ ts) - 1) ts (omega arith) in λ i. sym is i ∷ sym rest i

-- all lists
pub least_end : (f : List ℕ → ℕ) (least n : ℕ) (ts : List (List ℕ)) (i : ℕ) (x : List ℕ) → 1 ≤ length ts → x ≡ get_or ts 0 x → n ≡ f x
    → length (take (length ts - 1) (drop 1 ts)) ≤ i
    → least_in (least ∷ map f (drop i (take (length ts - 1) (drop 1 ts)))) ≡ least_in (n ∷ map f (take (length ts - 1) (drop 1 ts)))
    → least ≡ least_in (map f ts)
least_end f least n ts i x some is same over h =
    ap (λ (l : List (List ℕ)). least_in (least ∷ map f l)) (sym (drop_all i (take (length ts - 1) (drop 1 ts)) over))
    ∙ h
    ∙ ap (λ m. least_in (m ∷ map f (take (length ts - 1) (drop 1 ts)))) same
    ∙ ap (λ (l : List (List ℕ)). least_in (map f l)) (sym (split_first ts x some is))

-- ---- lists of which no more is read than of a rare one

pub rare_step : (m : ℕ) (docs : Docs) (sum n least whole : ℕ) (left rest : List (List ℕ)) (x : List ℕ) → left ≡ x ∷ rest → n ≡ length_of x docs
    → least ≡ min n (128 * (m + 1)) → sum + rare_readings left m docs ≡ whole → (sum + least) + rare_readings rest m docs ≡ whole
rare_step m docs sum n least whole left rest x is same cut h =
    let there : rare_readings left m docs ≡ min (length_of x docs) (128 * (m + 1)) + rare_readings rest m docs = ap (λ (l : List (List ℕ)). rare_readings l m docs) is in
    let own : least ≡ min (length_of x docs) (128 * (m + 1)) = cut ∙ ap (λ k. min k (128 * (m + 1))) same in
    omega (arith, there, own, h)
