-- Chains of lists, and what a change of one place in `next` makes of them.
use Rattle.std.proofs.Common.{◌≡◌, ◌≢◌, inl, inr, ⊎_elim, ℕ, zero, suc, ◌<◌, ◌≤◌, ◌+◌, ◌-◌, List, ◌∷◌, length, get_or, set, refl, sym, ap, subst, ◌∙◌, arith}
use Rattle.std.proofs.lemmas.Bool.{cases_eq}
use Rattle.std.proofs.lemmas.List.{get_or-set_same, get_or-set_other}
use Rattle.sk_buckets.specs.Dealt.{chain, Among, Differ, Apart, IsWithout}

-- the list that follows
abbrev behind : List ℕ → ℕ → ℕ
behind next i = get_or next i 0

-- a chain that is not empty begins with its first
pub chain_more : (n : ℕ) (next : List ℕ) (i : ℕ) → 0 < n → chain n next i ≡ i ∷ chain (n - 1) next (get_or next i 0)
chain_more zero next i h = absurd (omega arith)
chain_more (suc n) next i h = let e : n ≡ suc n - 1 = omega arith in ap (λ k. i ∷ chain k next (get_or next i 0)) e

pub some_among : (n : ℕ) (next : List ℕ) (i j : ℕ) → Among j (chain n next i) → 0 < n
some_among zero next i j a = absurd a
some_among (suc n) next i j a = omega arith

pub first_among : (n : ℕ) (next : List ℕ) (i : ℕ) → 0 < n → Among i (chain n next i)
first_among zero next i h = absurd (omega arith)
first_among (suc n) next i h = inl refl

-- a longer chain has what a shorter one has
pub longer : (n : ℕ) (next : List ℕ) (i j : ℕ) → Among j (chain n next i) → Among j (chain (suc n) next i)
longer zero next i j a = absurd a
longer (suc n) next i j a = ⊎_elim (λ e. inl e) (λ b. inr (longer n next (get_or next i 0) j b)) a

-- a place that is not in the chain may change
pub chain-set : (n : ℕ) (next : List ℕ) (i p v : ℕ) → (Among p (chain n next i) → ⊥) → chain n (set next p v) i ≡ chain n next i
chain-set zero next i p v out = refl
chain-set (suc n) next i p v out =
    let e : get_or (set next p v) i 0 ≡ get_or next i 0 = get_or-set_other next p i v 0 (λ e. out (inl (sym e))) in
    ap (λ l. i ∷ l) (ap (chain n (set next p v)) e ∙ chain-set n next (get_or next i 0) p v (λ a. out (inr a)))

-- what follows one of a chain is in the chain of what follows
next_among : (n : ℕ) (next : List ℕ) (i p : ℕ) → Among p (chain n next i) → Among (get_or next p 0) (chain n next (get_or next i 0))
next_among zero next i p a = absurd a
next_among (suc n) next i p a =
    ⊎_elim (λ e. inl (ap (λ k. get_or next k 0) e)) (λ b. inr (next_among n next (get_or next i 0) p b)) a

without_first : (i : ℕ) (xs : List ℕ) → Differ (i ∷ xs) → IsWithout i (i ∷ xs) xs
without_first i xs d = record {
  differ = d.1;
  other = λ j a. (inr a, λ e. d.0 (subst (λ k. Among k xs) e a));
  kept = λ j a ne. ⊎_elim (λ e. absurd (ne e)) (λ b. b) a;
}

without_second : (f i : ℕ) (xs : List ℕ) → Differ (f ∷ i ∷ xs) → IsWithout i (f ∷ i ∷ xs) (f ∷ xs)
without_second f i xs d = record {
  differ = (λ a. d.0 (inr a), d.1.1);
  other = λ j a. ⊎_elim (λ e. (inl e, λ q. d.0 (inl (sym e ∙ q)))) (λ b. (inr (inr b), λ q. d.1.0 (subst (λ k. Among k xs) q b))) a;
  kept = λ j a ne. ⊎_elim (λ e. inl e) (λ b. ⊎_elim (λ e. absurd (ne e)) (λ r. inr r) b) a;
}

without_later : (f i : ℕ) (xs ys : List ℕ) → f ≢ i → Differ (f ∷ xs) → IsWithout i xs ys → IsWithout i (f ∷ xs) (f ∷ ys)
without_later f i xs ys ne d w = record {
  differ = (λ a. d.0 (w.other f a).0, w.differ);
  other = λ j a. ⊎_elim (λ e. (inl e, λ q. ne (sym e ∙ q))) (λ b. (inr (w.other j b).0, (w.other j b).1)) a;
  kept = λ j a q. ⊎_elim (λ e. inl e) (λ b. inr (w.kept j b q)) a;
}

-- where the one before it points past it, the chain is without it
drops : (n : ℕ) (next : List ℕ) (f p i : ℕ) → p < length next → Among p (chain n next f) → get_or next p 0 ≡ i → Differ (chain (suc n) next f) → IsWithout i (chain (suc n) next f) (chain n (set next p (get_or next i 0)) f)
drops zero next f p i l a e d = absurd a
drops (suc n) next f p i l a e d =
    let g : ℕ = get_or next f 0 in
    let new : List ℕ = set next p (get_or next i 0) in
    ⊎_elim
    (λ (q : p ≡ f).
    let is : g ≡ i = ap (λ k. get_or next k 0) (sym q) ∙ e in
    let then : get_or new f 0 ≡ get_or next g 0 = ap (λ k. get_or new k 0) (sym q) ∙ get_or-set_same next p (get_or next i 0) 0 l ∙ ap (λ k. get_or next k 0) (sym is) in
    let same : chain n new (get_or next g 0) ≡ chain n next (get_or next g 0) = chain-set n next (get_or next g 0) p (get_or next i 0) (λ b. d.0 (inr (subst (λ k. Among k (chain n next (get_or next g 0))) q b))) in
    subst (λ (ys : List ℕ). IsWithout i (chain (suc (suc n)) next f) (f ∷ ys)) (sym (ap (chain n new) then ∙ same))
    (subst (λ k. IsWithout k (chain (suc (suc n)) next f) (f ∷ chain n next (get_or next g 0))) is
    (without_second f g (chain n next (get_or next g 0)) d)))
    (λ (b : Among p (chain n next g)). ⊎_elim
    (λ (q : f ≡ p). absurd (d.0 (subst (λ k. Among k (chain (suc n) next g)) (sym q) (longer n next g p b))))
    (λ (ne : f ≢ p).
    let then : get_or new f 0 ≡ g = get_or-set_other next p f (get_or next i 0) 0 ne in
    let far : f ≢ i = λ q. d.0 (inr (subst (λ k. Among k (chain n next (get_or next g 0))) (e ∙ sym q) (next_among n next g p b))) in
    subst (λ k. IsWithout i (chain (suc (suc n)) next f) (f ∷ chain n new k)) (sym then)
    (without_later f i (chain (suc n) next g) (chain n new g) far d (drops n next g p i l b e d.1)))
    (cases_eq f p))
    a

-- the same, for a chain of any length
pub left_first : (n : ℕ) (next : List ℕ) (f i : ℕ) → Among i (chain n next f) → Differ (chain n next f) → f ≡ i → IsWithout i (chain n next f) (chain (n - 1) next (get_or next i 0))
left_first n next f i a d q =
    let is : chain n next f ≡ f ∷ chain (n - 1) next (get_or next f 0) = chain_more n next f (some_among n next f i a) in
    subst (λ k. IsWithout k (chain n next f) (chain (n - 1) next (get_or next k 0))) q
    (subst (λ (xs : List ℕ). IsWithout f xs (chain (n - 1) next (get_or next f 0))) (sym is)
    (without_first f (chain (n - 1) next (get_or next f 0)) (subst Differ is d)))

pub left_later : (n : ℕ) (next : List ℕ) (f p i : ℕ) → p < length next → Among p (chain (n - 1) next f) → get_or next p 0 ≡ i → Differ (chain n next f) → IsWithout i (chain n next f) (chain (n - 1) (set next p (get_or next i 0)) f)
left_later zero next f p i l a e d = absurd a
left_later (suc n) next f p i l a e d =
    let is : n ≡ suc n - 1 = omega arith in
    subst (λ k. IsWithout i (chain (suc n) next f) (chain k (set next p (get_or next i 0)) f)) is
    (drops n next f p i l (subst (λ k. Among p (chain k next f)) (sym is) a) e d)

pub among_all : (n : ℕ) (next : List ℕ) (f p : ℕ) → Among p (chain (n - 1) next f) → Among p (chain n next f)
among_all zero next f p a = absurd a
among_all (suc n) next f p a = let is : suc n - 1 ≡ n = omega arith in longer n next f p (subst (λ k. Among p (chain k next f)) is a)

-- a chain that is apart from the one in which a place changed
pub apart_kept : (n : ℕ) (next : List ℕ) (f p v m g : ℕ) → Among p (chain (n - 1) next f) → Apart (chain m next g) (chain n next f) → chain m (set next p v) g ≡ chain m next g
apart_kept n next f p v m g a apart = chain-set m next g p v (λ b. apart p b (among_all n next f p a))

-- a walk along a chain that has come to its k-th, and not past the one that it looks for
pub record IsWalk (next : List ℕ) (first count which k at : ℕ) : Type 0 where
  pub small : k ≤ count
  pub rest : Among which (chain (suc (count - k)) next at)
  pub later : at ≢ which
  pub passed : (j : ℕ) → Among j (chain (count - k) next at) → Among j (chain (count - 1) next first)

pub walk_begins : (next : List ℕ) (first count which : ℕ) → Among which (chain count next first) → first ≢ which → IsWalk next first count which 1 first
walk_begins next first count which a ne =
    let some : 0 < count = some_among count next first which a in
    let is : count ≡ suc (count - 1) = omega arith in
    record { small = omega arith; rest = subst (λ n. Among which (chain n next first)) is a; later = ne; passed = λ j b. b }

pub walk_goes_on : (next : List ℕ) (first count which k at : ℕ) → k < count → get_or next at 0 ≢ which → IsWalk next first count which k at → IsWalk next first count which (k + 1) (get_or next at 0)
walk_goes_on next first count which k at l ne w =
    let is : count - k ≡ suc (count - (k + 1)) = omega arith in
    record {
      small = omega arith;
      rest = subst (λ n. Among which (chain n next (get_or next at 0))) is (⊎_elim (λ e. absurd (w.later (sym e))) (λ b. b) w.rest);
      later = ne;
      passed = λ j b. w.passed j (subst (λ n. Among j (chain n next at)) (sym is) (inr b));
    }

pub walk_among : (next : List ℕ) (first count which k at : ℕ) → k < count → IsWalk next first count which k at → Among at (chain (count - 1) next first)
walk_among next first count which k at l w = w.passed at (first_among (count - k) next at (omega arith))

pub walk_ends : (next : List ℕ) (first count which k at : ℕ) → count ≤ k → IsWalk next first count which k at → ⊥
walk_ends next first count which k at l w =
    let is : count - k ≡ 0 = omega arith in
    ⊎_elim (λ e. w.later (sym e)) (λ b. b) (subst (λ n. Among which (chain (suc n) next at)) is w.rest)
