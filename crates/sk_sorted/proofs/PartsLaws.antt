-- All parts of all are the parts, and joined they are all.
use Rattle.std.proofs.Common.{◌∙◌, ◌≡◌, ℕ, zero, suc, ◌+◌, ◌-◌, ◌<◌, ◌≤◌, List, [], ◌∷◌, length, get_or, sum_by, refl, sym, ap, arith}
use Rattle.std.specs.List.{AllByRecursion}
use Rattle.std.proofs.lemmas.List.{same_lists}
use Rattle.std.proofs.lemmas.List.Sums.{sum_by-cons}
use Rattle.sk_sorted.specs.Entries.{RiseAbove, LieBelow, put, found}
use Rattle.sk_sorted.proofs.EntryLaws.{AllByRecursion-put}
use Rattle.sk_sorted.specs.Joined.{joined_id, part_of, own_id, under, put_all, joined_from, joined, part_at, AllRise, part_in, parts_from, parts_in}
use Rattle.sk_sorted.proofs.JoinedIdLaws.{joined-own, part_below}
use Rattle.sk_sorted.proofs.JoinedLaws.{joined_by_found}
use Rattle.sk_sorted.proofs.PartLaws.{rise-part_in, found-part, part_in-joined}
use Rattle.sk_sorted.proofs.JoinedSumLaws.{sums_from, sum-joined}

module _ {X : Type 0} where
  pub length-parts_from : (more n part : ℕ) (es : List (ℕ × X)) → length (parts_from more n part es) ≡ more
  length-parts_from zero n part es = refl
  length-parts_from (suc more) n part es = ap suc (length-parts_from more n (part + 1) es)

  pub length-parts_in : (n : ℕ) (es : List (ℕ × X)) → length (parts_in n es) ≡ n
  length-parts_in n es = length-parts_from n n 0 es

  parts_from-at : (more n part i : ℕ) (es d : List (ℕ × X)) → i < more → get_or (parts_from more n part es) i d ≡ part_in n (part + i) es
  parts_from-at zero n part i es d l = absurd (omega (arith, l))
  parts_from-at (suc more) n part zero es d l = ap (λ p. part_in n p es) (same part)
    where
      same : (p : ℕ) → p ≡ p + 0
      same p = omega arith
  parts_from-at (suc more) n part (suc i) es d l = parts_from-at more n (part + 1) i es d (omega (arith, l)) ∙ ap (λ p. part_in n p es) next
    where
      next : part + 1 + i ≡ part + suc i
      next = omega arith

  pub part_at-parts_in : (n part : ℕ) (es d : List (ℕ × X)) → part < n → get_or (parts_in n es) part d ≡ part_in n part es
  part_at-parts_in n part es d l = parts_from-at n n 0 part es d l ∙ ap (λ p. part_in n p es) same
    where
      same : 0 + part ≡ part
      same = omega arith

  rise_from : (more n part : ℕ) (es : List (ℕ × X)) → part + more ≤ n → RiseAbove 0 es → AllRise (parts_from more n part es)
  rise_from zero n part es l up = tt
  rise_from (suc more) n part es l up = (rise-part_in n part (omega (arith, l)) es up, rise_from more n (part + 1) es (omega (arith, l)) up)

  pub rise-parts_in : (n : ℕ) (es : List (ℕ × X)) → RiseAbove 0 es → AllRise (parts_in n es)
  rise-parts_in n es up = rise_from n n 0 es (omega arith) up

  -- joined, the parts are all
  pub joined-parts_in : (n : ℕ) (es : List (ℕ × X)) → 0 < n → RiseAbove 0 es → joined (parts_in n es) ≡ es
  joined-parts_in n es some up = joined_by_found (parts_in n es) es (rise-parts_in n es up) up at
    where
      at : (id : ℕ) → 1 ≤ id → found id es ≡ found (own_id (length (parts_in n es)) id) (part_at (parts_in n es) (part_of (length (parts_in n es)) id))
      at id begun =
          sym (
          (λ i. found (own_id (length-parts_in n es i) id) (part_at (parts_in n es) (part_of (length-parts_in n es i) id)))
          ∙ ap (found (own_id n id)) (part_at-parts_in n (part_of n id) es [] (part_below n id some))
          ∙ found-part n (part_of n id) (part_below n id some) (own_id n id) 0 es (omega arith) up
          ∙ ap (λ k. found k es) (joined-own n id begun)
          )

  -- and what is joined has the parts
  pub parts_in-joined : (parts : List (List (ℕ × X))) → AllRise parts → parts_in (length parts) (joined parts) ≡ parts
  parts_in-joined parts up = same_lists (parts_in (length parts) (joined parts)) parts (length-parts_in (length parts) (joined parts)) at
    where
      in_range : (k : ℕ) → k < length (parts_in (length parts) (joined parts)) → k < length parts
      in_range k l = let long = length-parts_in (length parts) (joined parts) in omega (arith, l, long)

      any_default : (ps : List (List (ℕ × X))) (k : ℕ) (d : List (ℕ × X)) → k < length ps → get_or ps k [] ≡ get_or ps k d
      any_default [] k d l = absurd (omega (arith, l))
      any_default (p ∷ ps) zero d l = refl
      any_default (p ∷ ps) (suc k) d l = any_default ps k d (omega (arith, l))

      at : (k : ℕ) (d : List (ℕ × X)) → k < length (parts_in (length parts) (joined parts)) → get_or (parts_in (length parts) (joined parts)) k d ≡ get_or parts k d
      at k d l =
          part_at-parts_in (length parts) k (joined parts) d (in_range k l)
          ∙ part_in-joined (length parts) k (in_range k l) parts refl up
          ∙ any_default parts k d (in_range k l)

  -- ---- what is said of each of all
  module _ (P : X → Type 0) where
    all_under : (n part : ℕ) (es : List (ℕ × X)) → AllByRecursion (λ (e : ℕ × X). P e.1) es → AllByRecursion (λ (e : ℕ × X). P e.1) (under n part es)
    all_under n part [] all = tt
    all_under n part (e ∷ es) all = (all.0, all_under n part es all.1)

    all_put : (es fs : List (ℕ × X)) → AllByRecursion (λ (e : ℕ × X). P e.1) es → AllByRecursion (λ (e : ℕ × X). P e.1) fs → AllByRecursion (λ (e : ℕ × X). P e.1) (put_all es fs)
    all_put [] fs all more = more
    all_put (e ∷ es) fs all more = AllByRecursion-put (λ (e : ℕ × X). P e.1) e.0 e.1 (put_all es fs) all.0 (all_put es fs all.1 more)

    all_from : (n part : ℕ) (parts : List (List (ℕ × X))) → AllByRecursion (λ es. AllByRecursion (λ (e : ℕ × X). P e.1) es) parts → AllByRecursion (λ (e : ℕ × X). P e.1) (joined_from n part parts)
    all_from n part [] all = tt
    all_from n part (es ∷ parts) all = all_put (under n part es) (joined_from n (part + 1) parts) (all_under n part es all.0) (all_from n (part + 1) parts all.1)

    pub all-joined : (parts : List (List (ℕ × X))) → AllByRecursion (λ es. AllByRecursion (λ (e : ℕ × X). P e.1) es) parts → AllByRecursion (λ (e : ℕ × X). P e.1) (joined parts)
    all-joined parts all = all_from (length parts) 0 parts all

  -- ---- a sum of what does not look at ids
  module _ (f : X → ℕ) where
    sum-under : (n part : ℕ) (es : List (ℕ × X)) → sum_by (λ (e : ℕ × X). f e.1) (under n part es) ≡ sum_by (λ (e : ℕ × X). f e.1) es
    sum-under n part [] = refl
    sum-under n part (e ∷ es) =
        let a = sum_by-cons (λ (e : ℕ × X). f e.1) (joined_id n part e.0, e.1) (under n part es) in
        let b = sum_by-cons (λ (e : ℕ × X). f e.1) e es in
        omega (arith, a, b, sum-under n part es)

    sums_are : (n part : ℕ) (parts : List (List (ℕ × X))) → sums_from (λ (e : ℕ × X). f e.1) n part parts ≡ sum_by (λ es. sum_by (λ (e : ℕ × X). f e.1) es) parts
    sums_are n part [] = refl
    sums_are n part (es ∷ parts) =
        let a = sum_by-cons (λ (es : List (ℕ × X)). sum_by (λ (e : ℕ × X). f e.1) es) es parts in
        omega (arith, a, sum-under n part es, sums_are n (part + 1) parts)

    pub sum-parts : (parts : List (List (ℕ × X))) → AllRise parts → sum_by (λ (e : ℕ × X). f e.1) (joined parts) ≡ sum_by (λ es. sum_by (λ (e : ℕ × X). f e.1) es) parts
    sum-parts parts up = sum-joined (λ (e : ℕ × X). f e.1) parts up ∙ sums_are (length parts) 0 parts
