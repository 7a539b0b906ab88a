-- The last id, the front and the rest of entries in order.
use Rattle.std.proofs.Common.{◌≡◌, ℕ, zero, suc, ◌+◌, ◌<◌, ◌≤◌, max, List, [], ◌∷◌, ◌++◌, length, get_or, set, take, Some, refl, sym, ap, ◌∙◌, arith}
use Rattle.std.specs.List.{insert}
use Rattle.std.proofs.lemmas.Bool.Decides.{nat_tests}
use Rattle.sk_sorted.specs.Entries.{RiseAbove, LieBelow, AreSorted, put, without, found, top_id}
use Rattle.sk_sorted.specs.Places.{id_at, IsAt, IsGapFor}
use Rattle.sk_sorted.proofs.EntryLaws.{found-below}
use Rattle.sk_sorted.proofs.PlaceLaws.{id_at-get_or, put_at, put_in_gap}

module _ {X : Type 0} where
  -- the last id is no lower than the bound
  pub top_id-above : (low : ℕ) (es : List (ℕ × X)) → RiseAbove low es → low ≤ top_id low es
  top_id-above low [] up = omega arith
  top_id-above low (e ∷ es) up = omega (arith, up.0, top_id-above e.0 es up.1)

  -- no id is above the last
  id_at-top : (low : ℕ) (es : List (ℕ × X)) → RiseAbove low es → (i : ℕ) → i < length es → id_at es i ≤ top_id low es
  id_at-top low [] up i lt = absurd (omega arith)
  id_at-top low (e ∷ es) up zero lt = top_id-above e.0 es up.1
  id_at-top low (e ∷ es) up (suc i) lt = id_at-top e.0 es up.1 i (omega arith)

  -- an id above the last one would go to the end
  pub gap_past : (es : List (ℕ × X)) (id : ℕ) → RiseAbove 0 es → top_id 0 es < id → IsGapFor es id (length es)
  gap_past es id up past = record {
    in_range = omega arith;
    smaller_before = λ j lt. omega (arith, id_at-top 0 es up j lt);
    greater_after = λ j from lt. absurd (omega arith);
  }

  -- the last id is that of the last entry
  pub top_id-read : (low : ℕ) (es : List (ℕ × X)) (i : ℕ) (d : ℕ × X) → i + 1 ≡ length es → (get_or es i d).0 ≡ top_id low es
  top_id-read low [] i d end = absurd (omega arith)
  top_id-read low (e ∷ []) zero d end = refl
  top_id-read low (e ∷ []) (suc i) d end = absurd (omega arith)
  top_id-read low (e ∷ f ∷ es) zero d end = absurd (omega arith)
  top_id-read low (e ∷ f ∷ es) (suc i) d end = top_id-read e.0 (f ∷ es) i d (omega arith)

  -- an id that is there is no higher than the last
  found-top : (low id : ℕ) (x : X) (es : List (ℕ × X)) → Some x ≡ found id es → RiseAbove low es → id ≤ top_id low es
  found-top low id x [] there up = cc
  found-top low id x (e ∷ es) there up = grind (arith, nat_tests, found-top e.0 id x es, top_id-above e.0 es, up.0, up.1)

  -- behind an edit
  pub top_id-put : (low id : ℕ) (x : X) (es : List (ℕ × X)) → low < id → RiseAbove low es → top_id low (put id x es) ≡ max (top_id low es) id
  top_id-put low id x [] lt up = omega arith
  top_id-put low id x (e ∷ es) lt up = grind (arith, nat_tests, top_id-put e.0 id x es, top_id-above e.0 es, up.0, up.1)

  pub top_id-put_over : (id : ℕ) (x gone : X) (es : List (ℕ × X)) → 1 ≤ id → Some gone ≡ found id es → RiseAbove 0 es → top_id 0 (put id x es) ≡ top_id 0 es
  top_id-put_over id x gone es begun there up = omega (arith, top_id-put 0 id x es (omega arith) up, found-top 0 id gone es there up)

  pub length-put_over : (low id : ℕ) (x gone : X) (es : List (ℕ × X)) → Some gone ≡ found id es → RiseAbove low es → length (put id x es) ≡ length es
  length-put_over low id x gone [] there up = cc
  length-put_over low id x gone (e ∷ es) there up = grind (arith, nat_tests, length-put_over e.0 id x gone es, found-below e.0 id es, up.0, up.1)

  pub length-put : (id : ℕ) (x : X) (es : List (ℕ × X)) → length (put id x es) ≤ length es + 1
  length-put id x [] = omega arith
  length-put id x (e ∷ es) = grind (arith, nat_tests, length-put id x es)

  pub length-without : (id : ℕ) (es : List (ℕ × X)) → length (without id es) ≤ length es
  length-without id [] = omega arith
  length-without id (e ∷ es) = grind (arith, nat_tests, length-without id es)

  -- an entry of the id at its place is put
  pub put_whole : (es : List (ℕ × X)) (id : ℕ) (x : X) (i : ℕ) (e : ℕ × X) → RiseAbove 0 es → IsAt es id i → e ≡ (id, x) → set es i e ≡ put id x es
  put_whole es id x i e up here is =
      let same : (get_or es i e).0 ≡ id = id_at-get_or es i e here.in_range ∙ here.has_id in
      ap (set es i) (is ∙ (λ k. (sym same k, x))) ∙ put_at 0 es id x i e up here

  -- and so is a new one in the gap
  pub put_whole_in_gap : (es now : List (ℕ × X)) (id : ℕ) (x : X) (i : ℕ) (e : ℕ × X) → now ≡ insert es i e → IsGapFor es id i → e ≡ (id, x) → now ≡ put id x es
  put_whole_in_gap es now id x i e made gap is = made ∙ ap (insert es i) is ∙ put_in_gap es id x i gap

  -- a front is sorted
  RiseAbove-take : (low n : ℕ) (es : List (ℕ × X)) → RiseAbove low es → RiseAbove low (take n es)
  RiseAbove-take low zero es up = tt
  RiseAbove-take low (suc n) [] up = tt
  RiseAbove-take low (suc n) (e ∷ es) up = (up.0, RiseAbove-take e.0 n es up.1)

  LieBelow-take : (high n : ℕ) (es : List (ℕ × X)) → LieBelow high es → LieBelow high (take n es)
  LieBelow-take high zero es below = tt
  LieBelow-take high (suc n) [] below = tt
  LieBelow-take high (suc n) (e ∷ es) below = (below.0, LieBelow-take high n es below.1)

  pub AreSorted-take : (n : ℕ) (es : List (ℕ × X)) → AreSorted es → AreSorted (take n es)
  AreSorted-take n es sound = record { rise = RiseAbove-take 0 n es sound.rise; small = LieBelow-take _ n es sound.small }

  -- entries behind others that are above them are sorted with those
  RiseAbove-append : (low : ℕ) (es fs : List (ℕ × X)) → RiseAbove low es → RiseAbove (top_id low es) fs → RiseAbove low (es ++ fs)
  RiseAbove-append low [] fs up more = more
  RiseAbove-append low (e ∷ es) fs up more = (up.0, RiseAbove-append e.0 es fs up.1 more)

  LieBelow-append : (high : ℕ) (es fs : List (ℕ × X)) → LieBelow high es → LieBelow high fs → LieBelow high (es ++ fs)
  LieBelow-append high [] fs below more = more
  LieBelow-append high (e ∷ es) fs below more = (below.0, LieBelow-append high es fs below.1 more)

  pub AreSorted-append : (es fs : List (ℕ × X)) → AreSorted es → AreSorted fs → RiseAbove (top_id 0 es) fs → AreSorted (es ++ fs)
  AreSorted-append es fs sound more rise = record { rise = RiseAbove-append 0 es fs sound.rise rise; small = LieBelow-append _ es fs sound.small more.small }

  -- so the last id is that of both, or the higher of the two
  top_id-both : (low : ℕ) (es fs : List (ℕ × X)) → top_id low (es ++ fs) ≡ top_id (top_id low es) fs
  top_id-both low [] fs = refl
  top_id-both low (e ∷ es) fs = top_id-both e.0 es fs

  top_id-max : (low : ℕ) (es : List (ℕ × X)) → RiseAbove low es → top_id low es ≡ max low (top_id 0 es)
  top_id-max low [] up = omega arith
  top_id-max low (e ∷ es) up = omega (arith, up.0, top_id-above e.0 es up.1)

  pub top_id-append : (es fs : List (ℕ × X)) → RiseAbove (top_id 0 es) fs → top_id 0 (es ++ fs) ≡ max (top_id 0 es) (top_id 0 fs)
  top_id-append es fs rise = top_id-both 0 es fs ∙ top_id-max (top_id 0 es) fs rise
