-- Sums over terms, and the walk over those that begin with a prefix.
use Rattle.std.proofs.Common.{◌≡◌, ◌≢◌, ℕ, zero, suc, ◌+◌, ◌<◌, ◌≤◌, min, Bool, true, false, ◌&&◌, if◌then◌else◌, List, [], ◌∷◌, length, bytes_eq, Option, None, Some, IfSome, refl, sym, ap, ◌∙◌, arith}
use mathlib.Core.Bool.{true≢false}
use Rattle.std.specs.List.{AllPairs}
use Rattle.std.specs.Cmp.{tied_itself}
use Rattle.std.specs.Cmp.Lexicographic.{nat_list_cmp_total}
use Rattle.std.specs.declared.cmp.Ordering.{Ordering}
use Rattle.std.specs.declared.cmp.Ordering.TheVariants.{Less, Equal, Greater}
use Rattle.std.specs.Ordering.{is_lt}
use Rattle.std.proofs.lemmas.Slice.Eq.{bytes_eq-Decides}
use Rattle.sk_base.proofs.Tests.{same_tests}
use Rattle.sk_dict.specs.Terms.{term_at, term_cmp, begins_with, Precedes, IsNext, HasNoNext}
use Rattle.sk_terms.specs.Wild.{over, is_term_behind, share_behind, sum_behind}

-- sums of what is the same
pub over-same : (f g : List ℕ → ℕ) (terms : List (List ℕ)) → ((m : ℕ) → m < length terms → f (term_at terms m) ≡ g (term_at terms m)) → over f terms ≡ over g terms
over-same f g [] h = refl
over-same f g (t ∷ ts) h = λ i. h 0 (omega arith) i + over-same f g ts (λ m lt. h (suc m) (omega arith)) i

-- of nothing
pub over-none : (f : List ℕ → ℕ) (terms : List (List ℕ)) → ((m : ℕ) → m < length terms → f (term_at terms m) ≡ 0) → over f terms ≡ 0
over-none f [] h = refl
over-none f (t ∷ ts) h = omega (arith, h 0 (omega arith), over-none f ts (λ m lt. h (suc m) (omega arith)))

-- of two numbers, added
pub over-sum : (f g : List ℕ → ℕ) (terms : List (List ℕ)) → over (λ t. f t + g t) terms ≡ over f terms + over g terms
over-sum f g [] = refl
over-sum f g (t ∷ ts) = omega (arith, over-sum f g ts)

-- the number of one term, and 0 of another
abbrev pub only : List ℕ → (List ℕ → ℕ) → List ℕ → ℕ
only x f t = if bytes_eq x t then f t else 0

only-same : (x : List ℕ) (f : List ℕ → ℕ) (t : List ℕ) → t ≡ x → only x f t ≡ f x
only-same x f t e = ap (λ b. if b then f t else 0) ((bytes_eq-Decides x t).1 (sym e)) ∙ ap f e

only-other : (x : List ℕ) (f : List ℕ → ℕ) (t : List ℕ) → (t ≡ x → ⊥) → only x f t ≡ 0
only-other x f t apart = by (bytes_eq x t) refl
  where
    by : (b : Bool) → bytes_eq x t ≡ b → (if b then f t else 0) ≡ 0
    by true e = absurd (apart (sym ((bytes_eq-Decides x t).0 e)))
    by false e = refl

-- of different terms, one is counted once
pub over-only : (x : List ℕ) (f : List ℕ → ℕ) (terms : List (List ℕ)) (n : ℕ) → AllPairs (λ s t. s ≢ t) terms → n < length terms → term_at terms n ≡ x → over (only x f) terms ≡ f x
over-only x f [] n different lt is = absurd (omega arith)
over-only x f (t ∷ ts) zero different lt is =
    omega (arith, only-same x f t is, over-none (only x f) ts (λ m below. only-other x f (term_at ts m) (λ same. different 0 (suc m) [] (omega arith) (omega arith) (is ∙ sym same))))
over-only x f (t ∷ ts) (suc n) different lt is =
    omega (arith, only-other x f t (λ same. different 0 (suc n) [] (omega arith) lt (same ∙ sym is)), over-only x f ts n (λ i j d below within. different (suc i) (suc j) d (omega arith) (omega arith)) (omega arith) is)

-- the first stands before the second
pub less_is : (o : Ordering) → is_lt o ≡ true → o ≡ Less
less_is Less e = refl
less_is Equal e = absurd (true≢false (sym e))
less_is Greater e = absurd (true≢false (sym e))

behind_itself : (terms : List (List ℕ)) (n : ℕ) → is_term_behind terms (Some n) (term_at terms n) ≡ false
behind_itself terms n = ap is_lt (tied_itself nat_list_cmp_total (term_at terms n))

behind_from : (terms : List (List ℕ)) (after : Option ℕ) (t : List ℕ) → IfSome after (λ a. Precedes (term_at terms a) t) → is_term_behind terms after t ≡ true
behind_from terms None t h = refl
behind_from terms (Some a) t h = ap is_lt h

behind_is : (terms : List (List ℕ)) (after : Option ℕ) (t : List ℕ) → is_term_behind terms after t ≡ true → IfSome after (λ a. Precedes (term_at terms a) t)
behind_is terms None t h = tt
behind_is terms (Some a) t h = less_is (term_cmp (term_at terms a) t) h

behind_through : (terms : List (List ℕ)) (after : Option ℕ) (s t : List ℕ) → IfSome after (λ a. Precedes (term_at terms a) s) → Precedes s t → IfSome after (λ a. Precedes (term_at terms a) t)
behind_through terms None s t h p = tt
behind_through terms (Some a) s t h p = nat_list_cmp_total.trans (term_at terms a) s t h p

-- the next term, and what stands behind it
counted-next : (f : List ℕ → ℕ) (terms : List (List ℕ)) (prefix : List ℕ) (after : Option ℕ) (n : ℕ) → IsNext terms prefix after n → (m : ℕ) → m < length terms
    → share_behind f terms prefix after (term_at terms m) ≡ only (term_at terms n) f (term_at terms m) + share_behind f terms prefix (Some n) (term_at terms m)
counted-next f terms prefix after n next m lt = by (bytes_eq (term_at terms n) (term_at terms m)) refl
  where
    t : List ℕ
    t = term_at terms m

    chosen : (b c : Bool) (k : ℕ) → b ≡ true → c ≡ true → (if b && c then k else 0) ≡ k
    chosen b c k e g = (λ i. if e i && g i then k else 0)

    unchosen : (b c : Bool) (k : ℕ) → c ≡ false → (if b && c then k else 0) ≡ 0
    unchosen true c k e = ap (λ d. if d then k else 0) e
    unchosen false c k e = refl

    here : term_at terms n ≡ t → share_behind f terms prefix after t ≡ f t + share_behind f terms prefix (Some n) t
    here same =
        let first : share_behind f terms prefix after t ≡ f t =
        chosen (begins_with t prefix) (is_term_behind terms after t) (f t) (ap (λ w. begins_with w prefix) (sym same) ∙ next.follows.begins)
        (ap (is_term_behind terms after) (sym same) ∙ behind_from terms after (term_at terms n) next.follows.behind) in
        let rest : share_behind f terms prefix (Some n) t ≡ 0 = unchosen (begins_with t prefix) (is_term_behind terms (Some n) t) (f t) (ap (is_term_behind terms (Some n)) (sym same) ∙ behind_itself terms n) in
        omega (arith, first, rest)

    there : (bytes_eq (term_at terms n) t ≡ false) → (b : Bool) → begins_with t prefix ≡ b → (if b && is_term_behind terms after t then f t else 0) ≡ (if b && is_term_behind terms (Some n) t then f t else 0)
    there apart false e = refl
    there apart true e = ap (λ c. if c then f t else 0) (same_tests (is_term_behind terms after t) (is_term_behind terms (Some n) t)
        (λ h. ap is_lt (next.first m (record { there = lt; begins = e; behind = behind_is terms after t h }) (λ same. true≢false (sym ((bytes_eq-Decides (term_at terms n) t).1 (ap (term_at terms) (sym same))) ∙ apart))))
        (λ h. behind_from terms after t (behind_through terms after (term_at terms n) t next.follows.behind (behind_is terms (Some n) t h))))

    by : (b : Bool) → bytes_eq (term_at terms n) t ≡ b → share_behind f terms prefix after t ≡ (if b then f t else 0) + share_behind f terms prefix (Some n) t
    by true e = here ((bytes_eq-Decides (term_at terms n) t).0 e)
    by false e = let same = there e (begins_with t prefix) refl in omega (arith, same)

pub sum_behind-next : (f : List ℕ → ℕ) (terms : List (List ℕ)) (prefix : List ℕ) (after : Option ℕ) (n : ℕ) → AllPairs (λ s t. s ≢ t) terms → IsNext terms prefix after n
    → sum_behind f terms prefix after ≡ f (term_at terms n) + sum_behind f terms prefix (Some n)
sum_behind-next f terms prefix after n different next =
    over-same (share_behind f terms prefix after) (λ t. only (term_at terms n) f t + share_behind f terms prefix (Some n) t) terms (counted-next f terms prefix after n next)
    ∙ over-sum (only (term_at terms n) f) (share_behind f terms prefix (Some n)) terms
    ∙ ap (λ k. k + sum_behind f terms prefix (Some n)) (over-only (term_at terms n) f terms n different next.follows.there refl)

pub sum_behind-none : (f : List ℕ → ℕ) (terms : List (List ℕ)) (prefix : List ℕ) (after : Option ℕ) → HasNoNext terms prefix after → sum_behind f terms prefix after ≡ 0
sum_behind-none f terms prefix after none = over-none (share_behind f terms prefix after) terms (λ m lt. by m lt (begins_with (term_at terms m) prefix) (is_term_behind terms after (term_at terms m)) refl refl)
  where
    by : (m : ℕ) → m < length terms → (b c : Bool) → begins_with (term_at terms m) prefix ≡ b → is_term_behind terms after (term_at terms m) ≡ c → (if b && c then f (term_at terms m) else 0) ≡ 0
    by m lt true true e g = absurd (none m (record { there = lt; begins = e; behind = behind_is terms after (term_at terms m) g }))
    by m lt true false e g = refl
    by m lt false c e g = refl

-- How far a walk over the terms that begin with a prefix has come.
pub record SumSoFar (f : List ℕ → ℕ) (terms : List (List ℕ)) (prefix : List ℕ) (most total : ℕ) (after : Option ℕ) : Type 0 where
  pub whole : min most (total + sum_behind f terms prefix after) ≡ min most (sum_behind f terms prefix None)
  pub within : total ≤ most
  pub there : IfSome after (λ a. a < length terms)
  pub begins : IfSome after (λ a. begins_with (term_at terms a) prefix ≡ true)

pub sum_begins : (f : List ℕ → ℕ) (terms : List (List ℕ)) (prefix : List ℕ) (most : ℕ) → SumSoFar f terms prefix most 0 None
sum_begins f terms prefix most = record { whole = omega arith; within = omega arith; there = tt; begins = tt }

pub sum_more : (f : List ℕ → ℕ) (terms : List (List ℕ)) (prefix : List ℕ) (most total more : ℕ) (after : Option ℕ) (n : ℕ) → AllPairs (λ s t. s ≢ t) terms
    → SumSoFar f terms prefix most total after → IsNext terms prefix after n → more ≡ f (term_at terms n)
    → SumSoFar f terms prefix most (min most (total + more)) (Some n)
sum_more f terms prefix most total more after n different far next is = record {
  whole = omega (arith, far.whole, is, sum_behind-next f terms prefix after n different next);
  within = omega arith;
  there = next.follows.there;
  begins = next.follows.begins;
}

pub sum_ends : (f : List ℕ → ℕ) (terms : List (List ℕ)) (prefix : List ℕ) (most total : ℕ) (after : Option ℕ) → SumSoFar f terms prefix most total after → HasNoNext terms prefix after
    → total ≡ min most (sum_behind f terms prefix None)
sum_ends f terms prefix most total after far none = omega (arith, far.whole, far.within, sum_behind-none f terms prefix after none)

pub sum_shrinks : (terms : List (List ℕ)) (prefix : List ℕ) (after : Option ℕ) (n : ℕ) → AllPairs (λ s t. s ≢ t) terms → IsNext terms prefix after n
    → sum_behind (λ t. 1) terms prefix (Some n) < sum_behind (λ t. 1) terms prefix after
sum_shrinks terms prefix after n different next = omega (arith, sum_behind-next (λ t. 1) terms prefix after n different next)
