-- Sums over all parts are the sums of the parts.
use Rattle.std.proofs.Common.{◌∙◌, ◌≡◌, ℕ, cond, ◌+◌, ◌-◌, nat_le, ◌<◌, ◌≤◌, ◌⊎◌, inl, inr, List, [], ◌∷◌, length, sum_by, None, Some, refl, sym, ap, arith}
use Rattle.std.specs.Option.{option_or}
use Rattle.std.proofs.lemmas.Bool.{cases_order, lt-leb}
use Rattle.std.proofs.lemmas.List.Sums.{sum_by-cons}
use Rattle.sk_sorted.specs.Entries.{RiseAbove, put, found}
use Rattle.sk_sorted.proofs.EntryLaws.{found-here, found-other, found-below, put-after, put-before}
use Rattle.sk_sorted.specs.Joined.{joined_id, part_of, own_id, under, put_all, joined_from, joined, part_at, AllRise}
use Rattle.sk_sorted.proofs.JoinedIdLaws.{joined-lt, part-joined}
use Rattle.sk_sorted.proofs.JoinedLaws.{found-put_all, found-joined_from}

module _ {X : Type 0} (f : ℕ × X → ℕ) where
  some_none : {x : X} → Some x ≡ None → ⊥
  some_none e = cc

  pub sum-put : (id : ℕ) (x : X) (es : List (ℕ × X)) → found id es ≡ None → sum_by f (put id x es) ≡ f (id, x) + sum_by f es
  sum-put id x [] none = omega arith
  sum-put id x (e ∷ es) none = by_order (sum-put id x es) (cases_order e.0 id)
    where
      by_order : (found id es ≡ None → sum_by f (put id x es) ≡ f (id, x) + sum_by f es) → (e.0 ≡ id) ⊎ ((e.0 < id) ⊎ (id < e.0)) → sum_by f (put id x (e ∷ es)) ≡ f (id, x) + sum_by f (e ∷ es)
      by_order tail (inl s) = absurd (some_none (sym (found-here id e es s) ∙ none))
      by_order tail (inr (inl l)) =
          let rest = tail (sym (found-other id e es (λ s. absurd (omega (arith, l, s)))) ∙ none) in
          let first = ap (sum_by f) (put-after id x e es l) ∙ sum_by-cons f e (put id x es) in
          let here = sum_by-cons f e es in
          omega (arith, first, rest, here)
      by_order tail (inr (inr l)) =
          ap (sum_by f) (put-before id x e es l) ∙ sum_by-cons f (id, x) (e ∷ es)

  -- the ids of a part, on other entries of none of them
  rises_under : (n part low : ℕ) (es : List (ℕ × X)) → 0 < n → 1 ≤ low → RiseAbove low es → RiseAbove (joined_id n part low) (under n part es)
  rises_under n part low [] some l up = tt
  rises_under n part low (e ∷ es) some l up = (joined-lt n part low e.0 some l up.0, rises_under n part e.0 es some (omega (arith, up.0, l)) up.1)

  sum-put_under : (n part low : ℕ) (es fs : List (ℕ × X)) → 0 < n → RiseAbove low es → ((own : ℕ) → 1 ≤ own → found (joined_id n part own) fs ≡ None)
      → sum_by f (put_all (under n part es) fs) ≡ sum_by f (under n part es) + sum_by f fs
  sum-put_under n part low [] fs some up apart = omega arith
  sum-put_under n part low (e ∷ es) fs some up apart =
      let rest = sum-put_under n part e.0 es fs some up.1 apart in
      let gone : found (joined_id n part e.0) (put_all (under n part es) fs) ≡ None =
      found-put_all (joined_id n part e.0) (under n part es) fs
      ∙ (λ i. option_or (found-below (joined_id n part e.0) (joined_id n part e.0) (under n part es) (omega arith) (rises_under n part e.0 es some (omega (arith, up.0)) up.1) i) (apart e.0 (omega (arith, up.0)) i)) in
      let first : sum_by f (put (joined_id n part e.0) e.1 (put_all (under n part es) fs)) ≡ f (joined_id n part e.0, e.1) + sum_by f (put_all (under n part es) fs) = sum-put (joined_id n part e.0) e.1 (put_all (under n part es) fs) gone in
      let here = sum_by-cons f (joined_id n part e.0, e.1) (under n part es) in
      omega (arith, first, rest, here)

  -- of the parts from one on
  abbrev pub sums_from : ℕ → ℕ → List (List (ℕ × X)) → ℕ
  sums_from n part [] = 0
  sums_from n part (es ∷ parts) = sum_by f (under n part es) + sums_from n (part + 1) parts

  pub sum-joined_from : (n part : ℕ) (parts : List (List (ℕ × X))) → part + length parts ≤ n → AllRise parts → sum_by f (joined_from n part parts) ≡ sums_from n part parts
  sum-joined_from n part [] within up = refl
  sum-joined_from n part (es ∷ parts) within up =
      let rest = sum-joined_from n (part + 1) parts (omega (arith, within)) up.1 in
      let both = sum-put_under n part 0 es (joined_from n (part + 1) parts) (omega (arith, within)) up.0 apart in
      omega (arith, both, rest)
    where
      apart : (own : ℕ) → 1 ≤ own → found (joined_id n part own) (joined_from n (part + 1) parts) ≡ None
      apart own l =
          found-joined_from n (part + 1) (joined_id n part own) parts (omega (arith, within)) (omega arith) up.1
          ∙ ap (λ b. cond b (found (own_id n (joined_id n part own)) (slice (part_of n (joined_id n part own) - (part + 1)))) None)
          (ap (nat_le (part + 1)) (part-joined n part own (omega (arith, within))) ∙ lt-leb (part + 1) part (omega arith))
        where
          slice : ℕ → List (ℕ × X)
          slice p = part_at parts p

  pub sum-joined : (parts : List (List (ℕ × X))) → AllRise parts → sum_by f (joined parts) ≡ sums_from (length parts) 0 parts
  sum-joined parts up = sum-joined_from (length parts) 0 parts (omega arith) up
