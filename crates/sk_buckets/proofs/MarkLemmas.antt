-- Sums over marks, where one is set or comes behind.
use Rattle.std.proofs.Common.{◌≡◌, ◌≢◌, ◌⊎◌, inl, inr, ⊎_elim, ℕ, zero, suc, ◌<◌, ◌≤◌, ◌+◌, ◌^◌, ◌==◌, cond, List, [], ◌∷◌, ◌++◌, length, set, take, refl, sym, ap, subst, ◌∙◌, arith, All}
use Rattle.std.proofs.lemmas.Bool.{cases_eq, cases_lt, cond-true, cond-false, eq-eqb, ne_eqb}
use Rattle.std.proofs.lemmas.List.{length-take, get_or-set_same, get_or-set_other, length-set, set-set, set-get_or, get_or_append_left, get_or_push, length_push}
use Rattle.std.proofs.lemmas.List.Elements.{All-head, All-tail, All-set, All-take}
use Rattle.sk_buckets.specs.declared.mark.Mark.{Mark}
use Rattle.sk_buckets.specs.Marks.{first_head, weight_at, greatest_of, IsMark, AreMarks}
use Rattle.sk_buckets.specs.Dealt.{mark_at, count_at, StandsAt, AllFrom}

-- what one mark adds
abbrev one : ℕ → Mark → ℕ
one id m = cond (m.head == id) 1 0

abbrev heft : ℕ → Mark → ℕ
heft id m = cond (m.head == id) m.weight 0

one_on : (id : ℕ) (m : Mark) → m.head ≡ id → one id m ≡ 1
one_on id m e = cond-true (m.head == id) 1 0 (eq-eqb m.head id e)

one_off : (id : ℕ) (m : Mark) → m.head ≢ id → one id m ≡ 0
one_off id m ne = cond-false (m.head == id) 1 0 (ne_eqb m.head id ne)

heft_on : (id : ℕ) (m : Mark) → m.head ≡ id → heft id m ≡ m.weight
heft_on id m e = cond-true (m.head == id) m.weight 0 (eq-eqb m.head id e)

heft_off : (id : ℕ) (m : Mark) → m.head ≢ id → heft id m ≡ 0
heft_off id m ne = cond-false (m.head == id) m.weight 0 (ne_eqb m.head id ne)

one_few : (id : ℕ) (m : Mark) → one id m ≤ 1
one_few id m = ⊎_elim (λ e. omega (arith, one_on id m e)) (λ ne. omega (arith, one_off id m ne)) (cases_eq m.head id)

heft_light : (id : ℕ) (m : Mark) → heft id m ≤ m.weight
heft_light id m = ⊎_elim (λ e. omega (arith, heft_on id m e)) (λ ne. omega (arith, heft_off id m ne)) (cases_eq m.head id)

count-set : (id : ℕ) (ms : List Mark) (i : ℕ) (m : Mark) → i < length ms → count_at id (set ms i m) + one id (mark_at ms i) ≡ count_at id ms + one id m
count-set id [] i m l = absurd (omega arith)
count-set id (n ∷ ms) zero m l = omega arith
count-set id (n ∷ ms) (suc i) m l = let more = count-set id ms i m (omega arith) in omega (arith, more)

weight-set : (id : ℕ) (ms : List Mark) (i : ℕ) (m : Mark) → i < length ms → weight_at id (set ms i m) + heft id (mark_at ms i) ≡ weight_at id ms + heft id m
weight-set id [] i m l = absurd (omega arith)
weight-set id (n ∷ ms) zero m l = omega arith
weight-set id (n ∷ ms) (suc i) m l = let more = weight-set id ms i m (omega arith) in omega (arith, more)

pub greatest-set : (ms : List Mark) (i : ℕ) (m : Mark) → i < length ms → greatest_of (set ms i m) + (mark_at ms i).greatest ≡ greatest_of ms + m.greatest
greatest-set [] i m l = absurd (omega arith)
greatest-set (n ∷ ms) zero m l = omega arith
greatest-set (n ∷ ms) (suc i) m l = let more = greatest-set ms i m (omega arith) in omega (arith, more)

count-push : (id : ℕ) (ms : List Mark) (m : Mark) → count_at id (ms ++ m ∷ []) ≡ count_at id ms + one id m
count-push id [] m = omega arith
count-push id (n ∷ ms) m = omega (arith, count-push id ms m)

weight-push : (id : ℕ) (ms : List Mark) (m : Mark) → weight_at id (ms ++ m ∷ []) ≡ weight_at id ms + heft id m
weight-push id [] m = omega arith
weight-push id (n ∷ ms) m = omega (arith, weight-push id ms m)

-- no more stand at an id than there are, and they weigh no more than they can
pub count_few : (id : ℕ) (ms : List Mark) → count_at id ms ≤ length ms
count_few id [] = omega arith
count_few id (m ∷ ms) = omega (arith, count_few id ms, one_few id m)

pub weight_light : (id : ℕ) (ms : List Mark) → All IsMark ms → weight_at id ms ≤ greatest_of ms
weight_light id [] h = omega arith
weight_light id (m ∷ ms) h =
    let is : IsMark m = All-head IsMark m ms h in
    omega (arith, weight_light id ms (All-tail IsMark m ms h), heft_light id m, is.light)

-- the first head
pub head_small : (ms : List Mark) → first_head ms ≤ 2 ^ 32
head_small [] = omega arith
head_small (m ∷ ms) = omega (arith, head_small ms)

head_least : (ms : List Mark) (i : ℕ) → i < length ms → first_head ms ≤ (mark_at ms i).head
head_least [] i l = absurd (omega arith)
head_least (m ∷ ms) zero l = omega arith
head_least (m ∷ ms) (suc i) l = omega (arith, head_least ms i (omega arith))

pub all_from_first : (ms : List Mark) → AllFrom (first_head ms) ms
all_from_first ms = record { each = head_least ms }

head_above : (ms : List Mark) (id : ℕ) → id ≤ 2 ^ 32 → ((i : ℕ) → i < length ms → id ≤ (mark_at ms i).head) → id ≤ first_head ms
head_above [] id s h = s
head_above (m ∷ ms) id s h = omega (arith, h 0 (omega arith), head_above ms id s (λ i l. h (suc i) (omega arith)))

-- where all stand at an id or behind it and one stands there, it is the first
pub first_is : (ms : List Mark) (id i : ℕ) → All IsMark ms → AllFrom id ms → StandsAt ms id i → id ≡ first_head ms
first_is ms id i are from stands =
    let is : IsMark (mark_at ms i) = are i _ stands.within in
    omega (arith, head_least ms i stands.within, stands.there, is.within, head_above ms id (omega (arith, stands.there, is.within)) from.each)

-- some list stands at the first head
pub one_stands : (ms : List Mark) → 0 < length ms → All IsMark ms → (i : ℕ) × StandsAt ms (first_head ms) i
one_stands [] some are = absurd (omega arith)
one_stands (m ∷ []) some are = let is : IsMark m = All-head IsMark m [] are in (0, record { within = omega arith; there = omega (arith, is.within) })
one_stands (m ∷ n ∷ ms) some are =
    let more : (i : ℕ) × StandsAt (n ∷ ms) (first_head (n ∷ ms)) i = one_stands (n ∷ ms) (omega arith) (All-tail IsMark m (n ∷ ms) are) in
    let s : StandsAt (n ∷ ms) (first_head (n ∷ ms)) more.0 = more.1 in
    ⊎_elim
    (λ (lt : first_head (n ∷ ms) < m.head). (suc more.0, record { within = omega (arith, s.within); there = omega (arith, s.there) }))
    (λ (le : m.head ≤ first_head (n ∷ ms)). (0, record { within = omega arith; there = omega arith }))
    (cases_lt (first_head (n ∷ ms)) m.head)

-- the same lists stand at an id
pub record SameAt (id : ℕ) (ms ns : List Mark) : Type 0 where
  pub count : count_at id ns ≡ count_at id ms
  pub weight : weight_at id ns ≡ weight_at id ms
  pub from : (j : ℕ) → StandsAt ns id j → StandsAt ms id j
  pub to : (j : ℕ) → StandsAt ms id j → StandsAt ns id j

-- one list more stands at an id
pub record MoreAt (id : ℕ) (ms ns : List Mark) (i w : ℕ) : Type 0 where
  pub count : count_at id ns ≡ count_at id ms + 1
  pub weight : weight_at id ns ≡ weight_at id ms + w
  pub from : (j : ℕ) → StandsAt ns id j → (j ≡ i) ⊎ StandsAt ms id j
  pub to : (j : ℕ) → StandsAt ms id j → StandsAt ns id j
  pub here : StandsAt ns id i

-- of the ids below an end, a list came to one, and was at none
pub record Gains (end : ℕ) (ms ns : List Mark) (i : ℕ) (m : Mark) : Type 0 where
  pub same : (id : ℕ) → id < end → m.head ≢ id → SameAt id ms ns
  pub more : m.head < end → MoreAt m.head ms ns i m.weight
  pub new : (id : ℕ) → id < end → StandsAt ms id i → ⊥

pub SameAt-sym : (id : ℕ) (ms ns : List Mark) → SameAt id ms ns → SameAt id ns ms
SameAt-sym id ms ns s = record { count = sym s.count; weight = sym s.weight; from = s.to; to = s.from }

module _ (ms : List Mark) (i : ℕ) (m : Mark) (l : i < length ms) where
  at_set : mark_at (set ms i m) i ≡ m
  at_set = get_or-set_same ms i m _ l

  at_other : (j : ℕ) → j ≢ i → mark_at (set ms i m) j ≡ mark_at ms j
  at_other j ne = get_or-set_other ms i j m _ ne

  other_stands : (id j : ℕ) → j ≢ i → StandsAt ms id j → StandsAt (set ms i m) id j
  other_stands id j ne s = record { within = omega (arith, length-set ms i m, s.within); there = ap (λ (n : Mark). n.head) (at_other j ne) ∙ s.there }

  other_stood : (id j : ℕ) → j ≢ i → StandsAt (set ms i m) id j → StandsAt ms id j
  other_stood id j ne s = record { within = omega (arith, length-set ms i m, s.within); there = sym (ap (λ (n : Mark). n.head) (at_other j ne)) ∙ s.there }

  itself : (id j : ℕ) → j ≡ i → StandsAt (set ms i m) id j → m.head ≡ id
  itself id j e s = sym (ap (λ (n : Mark). n.head) (ap (mark_at (set ms i m)) e ∙ at_set)) ∙ s.there

  was : (id j : ℕ) → j ≡ i → StandsAt ms id j → (mark_at ms i).head ≡ id
  was id j e s = sym (ap (λ k. (mark_at ms k).head) e) ∙ s.there

  same-set : (id : ℕ) → (mark_at ms i).head ≢ id → m.head ≢ id → SameAt id ms (set ms i m)
  same-set id old new = record {
    count = omega (arith, count-set id ms i m l, one_off id (mark_at ms i) old, one_off id m new);
    weight = omega (arith, weight-set id ms i m l, heft_off id (mark_at ms i) old, heft_off id m new);
    from = λ j s. ⊎_elim (λ e. absurd (new (itself id j e s))) (λ ne. other_stood id j ne s) (cases_eq j i);
    to = λ j s. ⊎_elim (λ e. absurd (old (was id j e s))) (λ ne. other_stands id j ne s) (cases_eq j i);
  }

  more-set : (mark_at ms i).head ≢ m.head → MoreAt m.head ms (set ms i m) i m.weight
  more-set old = record {
    count = omega (arith, count-set m.head ms i m l, one_off m.head (mark_at ms i) old, one_on m.head m refl);
    weight = omega (arith, weight-set m.head ms i m l, heft_off m.head (mark_at ms i) old, heft_on m.head m refl);
    from = λ j s. ⊎_elim (λ e. inl e) (λ ne. inr (other_stood m.head j ne s)) (cases_eq j i);
    to = λ j s. ⊎_elim (λ e. absurd (old (was m.head j e s))) (λ ne. other_stands m.head j ne s) (cases_eq j i);
    here = record { within = omega (arith, length-set ms i m); there = ap (λ (n : Mark). n.head) at_set };
  }

  -- a list that stood behind the end comes to a mark
  pub gains-set : (end : ℕ) → end ≤ (mark_at ms i).head → Gains end ms (set ms i m) i m
  gains-set end far = record {
    same = λ id lt ne. same-set id (λ e. absurd (omega (arith, e, far, lt))) ne;
    more = λ lt. more-set (λ e. absurd (omega (arith, e, far, lt)));
    new = λ id lt s. absurd (omega (arith, s.there, far, lt));
  }

-- a list that goes behind the end
pub gains_back : (ms : List Mark) (i : ℕ) (m : Mark) (end : ℕ) → i < length ms → end ≤ m.head → Gains end (set ms i m) ms i (mark_at ms i)
gains_back ms i m end l far =
    let is : set (set ms i m) i (mark_at ms i) ≡ ms = set-set ms i m (mark_at ms i) ∙ set-get_or ms i _ in
    let at : mark_at (set ms i m) i ≡ m = get_or-set_same ms i m _ l in
    subst (λ (ns : List Mark). Gains end (set ms i m) ns i (mark_at ms i)) is
    (gains-set (set ms i m) i (mark_at ms i) (omega (arith, length-set ms i m, l)) end (subst (λ (n : Mark). end ≤ n.head) (sym at) far))

module _ (ms : List Mark) (m : Mark) where
  front_stands : (id j : ℕ) → StandsAt ms id j → StandsAt (ms ++ m ∷ []) id j
  front_stands id j s = record { within = omega (arith, length_push ms m, s.within); there = ap (λ (n : Mark). n.head) (get_or_append_left ms (m ∷ []) _ j s.within) ∙ s.there }

  front_stood : (id j : ℕ) → j < length ms → StandsAt (ms ++ m ∷ []) id j → StandsAt ms id j
  front_stood id j l s = record { within = l; there = sym (ap (λ (n : Mark). n.head) (get_or_append_left ms (m ∷ []) _ j l)) ∙ s.there }

  last_is : mark_at (ms ++ m ∷ []) (length ms) ≡ m
  last_is = get_or_push ms m _ (length ms) refl

  stood : (id j : ℕ) → StandsAt (ms ++ m ∷ []) id j → (j ≡ length ms) ⊎ StandsAt ms id j
  stood id j s = ⊎_elim (λ e. inl e) (λ ne. inr (front_stood id j (omega (arith, length_push ms m, s.within, ne)) s)) (cases_eq j (length ms))

  -- a list comes behind the others
  pub gains-push : (end : ℕ) → Gains end ms (ms ++ m ∷ []) (length ms) m
  gains-push end = record {
    same = λ id lt ne. record {
      count = omega (arith, count-push id ms m, one_off id m ne);
      weight = omega (arith, weight-push id ms m, heft_off id m ne);
      from = λ j s. ⊎_elim (λ e. absurd (ne (sym (ap (λ (n : Mark). n.head) (ap (mark_at (ms ++ m ∷ [])) e ∙ last_is)) ∙ s.there))) (λ b. b) (stood id j s);
      to = λ j s. front_stands id j s;
    };
    more = λ lt. record {
      count = omega (arith, count-push m.head ms m, one_on m.head m refl);
      weight = omega (arith, weight-push m.head ms m, heft_on m.head m refl);
      from = λ j s. stood m.head j s;
      to = λ j s. front_stands m.head j s;
      here = record { within = omega (arith, length_push ms m); there = ap (λ (n : Mark). n.head) last_is };
    };
    new = λ id lt s. absurd (omega (arith, s.within));
  }

-- marks that can be kept, where one moves on
pub are_set : (ms : List Mark) (i : ℕ) (m : Mark) → i < length ms → IsMark m → m.greatest ≤ (mark_at ms i).greatest → AreMarks ms → AreMarks (set ms i m)
are_set ms i m l is le are = record {
  each = All-set IsMark ms i m is are.each;
  few = omega (arith, length-set ms i m, are.few);
  fits = omega (arith, greatest-set ms i m l, le, are.fits);
}

pub from_set : (id : ℕ) (ms : List Mark) (i : ℕ) (m : Mark) → i < length ms → id ≤ m.head → AllFrom id ms → AllFrom id (set ms i m)
from_set id ms i m l le from = record {
  each = λ j k. ⊎_elim
      (λ (e : j ≡ i). let is : mark_at (set ms i m) j ≡ m = ap (mark_at (set ms i m)) e ∙ get_or-set_same ms i m _ l in subst (λ (n : Mark). id ≤ n.head) (sym is) le)
      (λ ne. subst (λ (n : Mark). id ≤ n.head) (sym (get_or-set_other ms i j m _ ne)) (from.each j (omega (arith, length-set ms i m, k))))
      (cases_eq j i);
}

-- what one weighs where it stands, and that is no more than all there
pub weight_least : (id : ℕ) (ms : List Mark) (i : ℕ) → StandsAt ms id i → (mark_at ms i).weight ≤ weight_at id ms
weight_least id [] i s = absurd (omega (arith, s.within))
weight_least id (m ∷ ms) zero s = omega (arith, heft_on id m s.there)
weight_least id (m ∷ ms) (suc i) s =
    let t : StandsAt ms id i = record { within = omega (arith, s.within); there = s.there } in
    omega (arith, weight_least id ms i t)

pub greatest_least : (ms : List Mark) (i : ℕ) → i < length ms → (mark_at ms i).greatest ≤ greatest_of ms
greatest_least [] i l = absurd (omega arith)
greatest_least (m ∷ ms) zero l = omega arith
greatest_least (m ∷ ms) (suc i) l = omega (arith, greatest_least ms i (omega arith))

pub mark_light : (ms : List Mark) (i : ℕ) → i < length ms → AreMarks ms → (mark_at ms i).weight < 2 ^ 63
mark_light ms i l are =
    let is : IsMark (mark_at ms i) = are.each i _ l in
    omega (arith, greatest_least ms i l, is.light, are.fits)

greatest-take : (k : ℕ) (ms : List Mark) → greatest_of (take k ms) ≤ greatest_of ms
greatest-take zero ms = omega arith
greatest-take (suc k) [] = omega arith
greatest-take (suc k) (m ∷ ms) = omega (arith, greatest-take k ms)

-- the first of them
pub are_take : (k : ℕ) (ms : List Mark) → AreMarks ms → AreMarks (take k ms)
are_take k ms are = record { each = All-take IsMark k ms are.each; few = omega (arith, length-take k ms, are.few); fits = omega (arith, greatest-take k ms, are.fits) }

-- where all stand behind an id, none stands there
count_none : (id : ℕ) (ms : List Mark) → ((i : ℕ) → i < length ms → id < (mark_at ms i).head) → count_at id ms ≡ 0
count_none id [] h = refl
count_none id (m ∷ ms) h =
    let ne : m.head ≢ id = λ e. absurd (omega (arith, e, h 0 (omega arith))) in
    omega (arith, one_off id m ne, count_none id ms (λ i l. h (suc i) (omega arith)))

weight_none : (id : ℕ) (ms : List Mark) → ((i : ℕ) → i < length ms → id < (mark_at ms i).head) → weight_at id ms ≡ 0
weight_none id [] h = refl
weight_none id (m ∷ ms) h =
    let ne : m.head ≢ id = λ e. absurd (omega (arith, e, h 0 (omega arith))) in
    omega (arith, heft_off id m ne, weight_none id ms (λ i l. h (suc i) (omega arith)))

pub none_counts : (end id : ℕ) (ms : List Mark) → id < end → AllFrom end ms → count_at id ms ≡ 0
none_counts end id ms lt from = count_none id ms (λ i l. omega (arith, from.each i l, lt))

pub none_weighs : (end id : ℕ) (ms : List Mark) → id < end → AllFrom end ms → weight_at id ms ≡ 0
none_weighs end id ms lt from = weight_none id ms (λ i l. omega (arith, from.each i l, lt))
