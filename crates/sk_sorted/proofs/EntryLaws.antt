-- Laws of entries in order of their ids: order, `put`, `without`, `found`, `from`.
use Rattle.std.proofs.Common.{◌∙◌, ◌≡◌, ◌≢◌, ℕ, zero, suc, ◌+◌, ◌-◌, ◌<◌, ◌≤◌, ◌^◌, List, [], ◌∷◌, ◌++◌, length, drop, None, Some, refl, arith, subst, inl, inr, sym}
use Rattle.std.specs.List.{AllByRecursion}
use Rattle.std.proofs.lemmas.Bool.{cases_order, cases_eq}
use Rattle.std.proofs.lemmas.Bool.Decides.{nat_tests}
use Rattle.sk_sorted.specs.Entries.{RiseAbove, LieBelow, AreSorted, put, without, found, from}

module _ {X : Type 0} where
  -- what rises above a bound rises above a lower one
  pub RiseAbove-lower : (low high : ℕ) (es : List (ℕ × X)) → low ≤ high → RiseAbove high es → RiseAbove low es
  RiseAbove-lower low high [] le up = tt
  RiseAbove-lower low high (e ∷ es) le up = (omega (arith, up.0), up.1)

  -- what lies below a bound lies below a higher one
  pub LieBelow-higher : (low high : ℕ) (es : List (ℕ × X)) → low ≤ high → LieBelow low es → LieBelow high es
  LieBelow-higher low high [] le below = tt
  LieBelow-higher low high (e ∷ es) le below = (omega (arith, below.0), LieBelow-higher low high es le below.1)

  -- the rest of what rises
  pub RiseAbove-drop : (low n : ℕ) (es : List (ℕ × X)) → RiseAbove low es → RiseAbove low (drop n es)
  RiseAbove-drop low zero es up = up
  RiseAbove-drop low (suc n) [] up = tt
  RiseAbove-drop low (suc n) (e ∷ es) up = RiseAbove-drop low n es (RiseAbove-lower low e.0 es (omega (arith, up.0)) up.1)

  -- the rest of what lies below
  pub LieBelow-drop : (high n : ℕ) (es : List (ℕ × X)) → LieBelow high es → LieBelow high (drop n es)
  LieBelow-drop high zero es below = below
  LieBelow-drop high (suc n) [] below = tt
  LieBelow-drop high (suc n) (e ∷ es) below = LieBelow-drop high n es below.1

  -- the rest of sorted entries is sorted
  pub AreSorted-drop : (n : ℕ) (es : List (ℕ × X)) → AreSorted es → AreSorted (drop n es)
  AreSorted-drop n es sound = record { rise = RiseAbove-drop 0 n es sound.rise; small = LieBelow-drop _ n es sound.small }

  -- what stands behind the first entry is sorted
  pub AreSorted-tail : (e : ℕ × X) (es : List (ℕ × X)) → AreSorted (e ∷ es) → AreSorted es
  AreSorted-tail e es sound = AreSorted-drop 1 (e ∷ es) sound

  -- between two bounds there are no more entries than numbers
  pub length_within : (low high : ℕ) (es : List (ℕ × X)) → low < high → RiseAbove low es → LieBelow high es → low + length es < high
  length_within low high [] lt up below = omega arith
  length_within low high (e ∷ es) lt up below = omega (arith, up.0, length_within e.0 high es below.0 up.1 below.1)

  -- there are fewer entries than ids
  pub length_fits : (es : List (ℕ × X)) → AreSorted es → length es < 2 ^ 32
  length_fits es sound = omega (arith, length_within 0 (2 ^ 32) es (omega arith) sound.rise sound.small)

  -- `put` where the first id is lower, is this one, and is higher
  pub put-after : (id : ℕ) (x : X) (e : ℕ × X) (es : List (ℕ × X)) → e.0 < id → put id x (e ∷ es) ≡ e ∷ put id x es
  put-after id x e es lt = grind (arith, nat_tests)

  pub put-here : (id : ℕ) (x : X) (e : ℕ × X) (es : List (ℕ × X)) → e.0 ≡ id → put id x (e ∷ es) ≡ (e.0, x) ∷ es
  put-here id x e es same = grind (arith, nat_tests)

  pub put-before : (id : ℕ) (x : X) (e : ℕ × X) (es : List (ℕ × X)) → id < e.0 → put id x (e ∷ es) ≡ (id, x) ∷ e ∷ es
  put-before id x e es lt = grind (arith, nat_tests)

  -- `without` where the first id is this one, and where it is another
  pub without-here : (id : ℕ) (e : ℕ × X) (es : List (ℕ × X)) → e.0 ≡ id → without id (e ∷ es) ≡ es
  without-here id e es same = grind (arith, nat_tests)

  pub without-other : (id : ℕ) (e : ℕ × X) (es : List (ℕ × X)) → e.0 ≢ id → without id (e ∷ es) ≡ e ∷ without id es
  without-other id e es apart = grind (arith, nat_tests)

  -- `found` where the first id is this one, and where it is another
  pub found-here : (id : ℕ) (e : ℕ × X) (es : List (ℕ × X)) → e.0 ≡ id → found id (e ∷ es) ≡ Some e.1
  found-here id e es same = grind (arith, nat_tests)

  pub found-other : (id : ℕ) (e : ℕ × X) (es : List (ℕ × X)) → e.0 ≢ id → found id (e ∷ es) ≡ found id es
  found-other id e es apart = grind (arith, nat_tests)

  -- `put` keeps the order
  pub RiseAbove-put : (low id : ℕ) (x : X) (es : List (ℕ × X)) → low < id → RiseAbove low es → RiseAbove low (put id x es)
  RiseAbove-put low id x [] lt up = (lt, tt)
  RiseAbove-put low id x (e ∷ es) lt up = grind (arith, nat_tests, RiseAbove-put e.0 id x es, up.0, up.1)

  -- `put` of a low id leaves all below
  pub LieBelow-put : (high id : ℕ) (x : X) (es : List (ℕ × X)) → id < high → LieBelow high es → LieBelow high (put id x es)
  LieBelow-put high id x [] lt below = (lt, tt)
  LieBelow-put high id x (e ∷ es) lt below = grind (arith, nat_tests, LieBelow-put high id x es, below.0, below.1)

  -- `put` keeps entries sorted
  pub AreSorted-put : (id : ℕ) (x : X) (es : List (ℕ × X)) → 1 ≤ id → id < 2 ^ 32 → AreSorted es → AreSorted (put id x es)
  AreSorted-put id x es begun small sound = record { rise = RiseAbove-put 0 id x es (omega arith) sound.rise; small = LieBelow-put _ id x es small sound.small }

  -- `without` keeps the order
  pub RiseAbove-without : (low id : ℕ) (es : List (ℕ × X)) → RiseAbove low es → RiseAbove low (without id es)
  RiseAbove-without low id [] up = tt
  RiseAbove-without low id (e ∷ es) up = grind (arith, nat_tests, RiseAbove-without e.0 id es, RiseAbove-lower low e.0 es, up.0, up.1)

  -- `without` leaves all below
  pub LieBelow-without : (high id : ℕ) (es : List (ℕ × X)) → LieBelow high es → LieBelow high (without id es)
  LieBelow-without high id [] below = tt
  LieBelow-without high id (e ∷ es) below = grind (arith, nat_tests, LieBelow-without high id es, below.0, below.1)

  -- `without` keeps entries sorted
  pub AreSorted-without : (id : ℕ) (es : List (ℕ × X)) → AreSorted es → AreSorted (without id es)
  AreSorted-without id es sound = record { rise = RiseAbove-without 0 id es sound.rise; small = LieBelow-without _ id es sound.small }

  -- an id that is not above the bound is not there
  pub found-below : (low id : ℕ) (es : List (ℕ × X)) → id ≤ low → RiseAbove low es → found id es ≡ None
  found-below low id [] le up = refl
  found-below low id (e ∷ es) le up = grind (arith, nat_tests, found-below e.0 id es, up.0, up.1)

  -- what was put is there
  pub found-put : (id : ℕ) (x : X) (es : List (ℕ × X)) → found id (put id x es) ≡ Some x
  found-put id x [] = grind (arith, nat_tests)
  found-put id x (e ∷ es) = grind (arith, nat_tests, found-put id x es)

  -- `put` under another id leaves it
  pub found-put_other : (id other : ℕ) (x : X) (es : List (ℕ × X)) → id ≢ other → found other (put id x es) ≡ found other es
  found-put_other id other x [] apart = grind (arith, nat_tests)
  found-put_other id other x (e ∷ es) apart = grind (arith, nat_tests, found-put_other id other x es apart)

  -- what was taken out is not there
  pub found-without : (low id : ℕ) (es : List (ℕ × X)) → RiseAbove low es → found id (without id es) ≡ None
  found-without low id [] up = refl
  found-without low id (e ∷ es) up = grind (arith, nat_tests, found-without e.0 id es, found-below e.0 id es, up.0, up.1)

  -- `without` another id leaves it
  pub found-without_other : (id other : ℕ) (es : List (ℕ × X)) → id ≢ other → found other (without id es) ≡ found other es
  found-without_other id other [] apart = refl
  found-without_other id other (e ∷ es) apart = grind (arith, nat_tests, found-without_other id other es apart)

  -- what is not there cannot be taken out
  pub without-absent : (id : ℕ) (es : List (ℕ × X)) → found id es ≡ None → without id es ≡ es
  without-absent id [] none = refl
  without-absent id (e ∷ es) none = grind (arith, nat_tests, without-absent id es)

  -- what holds of each entry and of what is put holds of each behind it
  pub AllByRecursion-put : (P : ℕ × X → Type 0) (id : ℕ) (x : X) (es : List (ℕ × X)) → P (id, x) → AllByRecursion P es → AllByRecursion P (put id x es)
  AllByRecursion-put P id x [] own all = (own, tt)
  AllByRecursion-put P id x (e ∷ es) own all = elim (cases_order e.0 id) [
    | inl same ↦ rw (put-here id x e es same) (subst (λ n. P (n, x)) (sym same) own, all.1)
    | inr apart ↦ elim apart [
      | inl after ↦ rw (put-after id x e es after) (all.0, AllByRecursion-put P id x es own all.1)
      | inr before ↦ rw (put-before id x e es before) (own, all)
    ]
  ]

  -- what holds of each entry holds of each that is left
  pub AllByRecursion-without : (P : ℕ × X → Type 0) (id : ℕ) (es : List (ℕ × X)) → AllByRecursion P es → AllByRecursion P (without id es)
  AllByRecursion-without P id [] all = tt
  AllByRecursion-without P id (e ∷ es) all = elim (cases_eq e.0 id) [
    | inl same ↦ rw (without-here id e es same) all.1
    | inr apart ↦ rw (without-other id e es apart) (all.0, AllByRecursion-without P id es all.1)
  ]

  -- what holds of each entry holds of the one that is found
  pub AllByRecursion-found : (P : X → Type 0) (id : ℕ) (x : X) (es : List (ℕ × X)) → AllByRecursion (λ e. P e.1) es → found id es ≡ Some x → P x
  AllByRecursion-found P id x [] all there = cc
  AllByRecursion-found P id x (e ∷ es) all there = elim (cases_eq e.0 id) [
    | inl same ↦ let is : e.1 ≡ x = some_inner (sym (found-here id e es same) ∙ there) in subst P is all.0
    | inr apart ↦ AllByRecursion-found P id x es all.1 (sym (found-other id e es apart) ∙ there)
  ]
    where
      some_inner : {y z : X} → Some y ≡ Some z → y ≡ z
      some_inner same = cc

  -- what is not above the bound cannot be taken out
  pub without-below : (low id : ℕ) (es : List (ℕ × X)) → id ≤ low → RiseAbove low es → without id es ≡ es
  without-below low id es le up = without-absent id es (found-below low id es le up)

  -- entries above the id stand behind it
  pub put-front : (low id : ℕ) (x : X) (es : List (ℕ × X)) → id ≤ low → RiseAbove low es → put id x es ≡ (id, x) ∷ es
  put-front low id x [] le up = refl
  put-front low id x (e ∷ es) le up = grind (arith, nat_tests, up.0)

  -- what is put in the place of another could as well be put after that was taken out
  pub put-without : (low id : ℕ) (x : X) (es : List (ℕ × X)) → RiseAbove low es → put id x (without id es) ≡ put id x es
  put-without low id x [] up = refl
  put-without low id x (e ∷ es) up = grind (arith, nat_tests, put-without e.0 id x es, put-front e.0 id x es, without-below e.0 id es, up.0, up.1)

  -- what was put where nothing was is gone once it is taken out
  pub without-put : (id : ℕ) (x : X) (es : List (ℕ × X)) → found id es ≡ None → without id (put id x es) ≡ es
  without-put id x [] none = grind (arith, nat_tests)
  without-put id x (e ∷ es) none = grind (arith, nat_tests, none, without-put id x es, without-absent id (e ∷ es))

  -- entries below the id stand before what is put, and entries from it on behind
  pub put-append : (id : ℕ) (x : X) (ds es : List (ℕ × X)) → LieBelow id ds → put id x (ds ++ es) ≡ ds ++ put id x es
  put-append id x [] es below = refl
  put-append id x (d ∷ ds) es below = grind (arith, nat_tests, put-append id x ds es, below.0, below.1)

  pub put-front_append : (low id : ℕ) (x : X) (ds es : List (ℕ × X)) → id ≤ low → RiseAbove low es → put id x (ds ++ es) ≡ put id x ds ++ es
  put-front_append low id x [] es le up = put-front low id x es le up
  put-front_append low id x (d ∷ ds) es le up = grind (arith, nat_tests, put-front_append low id x ds es le up)

  -- what is above all entries is put last
  pub put-last : (id : ℕ) (x : X) (es : List (ℕ × X)) → LieBelow id es → put id x es ≡ es ++ (id, x) ∷ []
  put-last id x [] below = refl
  put-last id x (e ∷ es) below = grind (arith, nat_tests, put-last id x es, below.0, below.1)

  -- the same of `without` and of `found`
  pub without-append : (id : ℕ) (ds es : List (ℕ × X)) → LieBelow id ds → without id (ds ++ es) ≡ ds ++ without id es
  without-append id [] es below = refl
  without-append id (d ∷ ds) es below = grind (arith, nat_tests, without-append id ds es, below.0, below.1)

  pub without-front_append : (low id : ℕ) (ds es : List (ℕ × X)) → id ≤ low → RiseAbove low es → without id (ds ++ es) ≡ without id ds ++ es
  without-front_append low id [] es le up = without-below low id es le up
  without-front_append low id (d ∷ ds) es le up = grind (arith, nat_tests, without-front_append low id ds es le up)

  pub found-append : (id : ℕ) (ds es : List (ℕ × X)) → LieBelow id ds → found id (ds ++ es) ≡ found id es
  found-append id [] es below = refl
  found-append id (d ∷ ds) es below = grind (arith, nat_tests, found-append id ds es, below.0, below.1)

  pub found-front_append : (low id : ℕ) (ds es : List (ℕ × X)) → id ≤ low → RiseAbove low es → found id (ds ++ es) ≡ found id ds
  found-front_append low id [] es le up = found-below low id es le up
  found-front_append low id (d ∷ ds) es le up = grind (arith, nat_tests, found-front_append low id ds es le up)

  -- `from` passes over a first entry below the target, and stops at one that is not
  pub from-below : (target : ℕ) (e : ℕ × X) (es : List (ℕ × X)) → e.0 < target → from target (e ∷ es) ≡ from target es
  from-below target e es lt = grind (arith, nat_tests)

  pub from-at : (target : ℕ) (e : ℕ × X) (es : List (ℕ × X)) → target ≤ e.0 → from target (e ∷ es) ≡ e ∷ es
  from-at target e es le = grind (arith, nat_tests)

  -- what rises above a bound is left whole by a target at most one more
  pub from-above : (low target : ℕ) (es : List (ℕ × X)) → RiseAbove low es → target ≤ low + 1 → from target es ≡ es
  from-above low target [] up le = refl
  from-above low target (e ∷ es) up le = from-at target e es (omega (arith, up.0))

  -- `from` passes over entries below the target, and leaves those whole that stand behind a bound from the target on
  pub from-append : (target : ℕ) (ds es : List (ℕ × X)) → LieBelow target ds → from target (ds ++ es) ≡ from target es
  from-append target [] es below = refl
  from-append target (d ∷ ds) es below = grind (arith, nat_tests, from-append target ds es, below.0, below.1)

  pub from-front_append : (low target : ℕ) (ds es : List (ℕ × X)) → target ≤ low + 1 → RiseAbove low es → from target (ds ++ es) ≡ from target ds ++ es
  from-front_append low target [] es le up = from-above low target es up le
  from-front_append low target (d ∷ ds) es le up = grind (arith, nat_tests, from-front_append low target ds es le up)

  -- behind the first entry stands the rest
  pub from-next : (e : ℕ × X) (es : List (ℕ × X)) → AreSorted (e ∷ es) → from (e.0 + 1) (e ∷ es) ≡ es
  from-next e es sound = rw (from-below (e.0 + 1) e es (omega arith)) (from-above e.0 (e.0 + 1) es sound.rise.1 (omega arith))

  -- behind an entry of the last id there is none
  pub nothing_behind_last : (e : ℕ × X) (es : List (ℕ × X)) → AreSorted (e ∷ es) → e.0 ≡ 2 ^ 32 - 1 → es ≡ []
  nothing_behind_last e [] sound last = refl
  nothing_behind_last e (f ∷ es) sound last = absurd (omega (arith, sound.rise.1.0, sound.small.1.0))
