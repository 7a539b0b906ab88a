-- A part is what stands in it of all.
use Rattle.std.proofs.Common.{◌∙◌, ◌≡◌, ℕ, zero, suc, Bool, true, false, cond, ◌+◌, ◌-◌, ◌*◌, ◌/◌, ◌==◌, ◌<◌, ◌≤◌, ◌⊎◌, inl, inr, List, [], ◌∷◌, length, None, Some, refl, sym, ap, arith}
use Rattle.std.specs.List.{cons_option}
use Rattle.std.proofs.Math.Nat.{suc-mul, div-mul-le_self}
use Rattle.std.proofs.lemmas.Nat.{le-div, mul-le}
use Rattle.std.proofs.lemmas.Bool.{cases_eq}
use Rattle.std.proofs.lemmas.Bool.Decides.{nat_tests}
use Rattle.sk_sorted.specs.Entries.{RiseAbove, found}
use Rattle.sk_sorted.proofs.EntryLaws.{found-here, found-other, found-below}
use Rattle.sk_sorted.specs.Joined.{joined_id, part_of, own_id, joined, part_at, AllRise, part_in, point_in}
use Rattle.sk_sorted.proofs.JoinedIdLaws.{own-joined, part-joined, joined-own, own-lt}
use Rattle.sk_sorted.proofs.JoinedLaws.{same_entries, found-joined, rise-joined, all-at}

module _ (n part : ℕ) where
  there : (id : ℕ) → (part_of n id == part) ≡ true → part_of n id ≡ part
  there id e = grind (arith, nat_tests)

  whole : (id : ℕ) → 1 ≤ id → part_of n id ≡ part → joined_id n part (own_id n id) ≡ id
  whole id l same = sym (ap (λ q. joined_id n q (own_id n id)) same) ∙ joined-own n id l

module _ {X : Type 0} (n part : ℕ) (below : part < n) where
  rise-part : (low k : ℕ) (es : List (ℕ × X)) → RiseAbove low es → ((own : ℕ) → 1 ≤ own → low < joined_id n part own → k < own) → RiseAbove k (part_in n part es)
  rise-part low k [] up over = tt
  rise-part low k (e ∷ es) up over = by_part (part_of n e.0 == part) refl (λ m. rise-part e.0 m es up.1)
    where
      by_part : (b : Bool) → (part_of n e.0 == part) ≡ b → ((m : ℕ) → ((own : ℕ) → 1 ≤ own → e.0 < joined_id n part own → m < own) → RiseAbove m (part_in n part es))
          → RiseAbove k (cons_option (cond b (Some (own_id n e.0, e.1)) None) (part_in n part es))
      by_part true s rest =
          let is = whole n part e.0 (omega (arith, up.0)) (there n part e.0 s) in (
            over (own_id n e.0) (omega arith) (omega (arith, up.0, is)),
            rest (own_id n e.0) (λ own l lt. own-lt n part (own_id n e.0) own (omega (arith, lt, is))),
          )
      by_part false s rest = rest k (λ own l lt. over own l (omega (arith, up.0, lt)))

  pub found-part : (own low : ℕ) (es : List (ℕ × X)) → 1 ≤ own → RiseAbove low es → found own (part_in n part es) ≡ found (joined_id n part own) es
  found-part own low [] l up = refl
  found-part own low (e ∷ es) l up = by_part (part_of n e.0 == part) refl (found-part own e.0 es l up.1)
    where
      by_part : (b : Bool) → (part_of n e.0 == part) ≡ b → found own (part_in n part es) ≡ found (joined_id n part own) es
          → found own (cons_option (cond b (Some (own_id n e.0, e.1)) None) (part_in n part es)) ≡ found (joined_id n part own) (e ∷ es)
      by_part true s rest = by_id (cases_eq (own_id n e.0) own)
        where
          by_id : (own_id n e.0 ≡ own) ⊎ (own_id n e.0 ≡ own → ⊥) → found own ((own_id n e.0, e.1) ∷ part_in n part es) ≡ found (joined_id n part own) (e ∷ es)
          by_id (inl is) =
              found-here own (own_id n e.0, e.1) (part_in n part es) is
              ∙ sym (found-here (joined_id n part own) e es (sym (whole n part e.0 (omega (arith, up.0)) (there n part e.0 s)) ∙ ap (joined_id n part) is))
          by_id (inr other) =
              found-other own (own_id n e.0, e.1) (part_in n part es) other ∙ rest
              ∙ sym (found-other (joined_id n part own) e es (λ is. other (ap (own_id n) is ∙ own-joined n part own below l)))
      by_part false s rest = rest ∙ sym (found-other (joined_id n part own) e es (λ is. absurd (apart (ap (part_of n) is ∙ part-joined n part own below))))
        where
          apart : part_of n e.0 ≡ part → ⊥
          apart same = grind (arith, nat_tests, s)

  pub rise-part_in : (es : List (ℕ × X)) → RiseAbove 0 es → RiseAbove 0 (part_in n part es)
  rise-part_in es up = rise-part 0 0 es up (λ own l lt. l)

  pub part_in-joined : (parts : List (List (ℕ × X))) → length parts ≡ n → AllRise parts → part_in n part (joined parts) ≡ part_at parts part
  part_in-joined parts many up =
      same_entries 0 (part_in n part (joined parts)) (part_at parts part) (rise-part 0 0 (joined parts) (rise-joined parts) (λ own l lt. l)) (all-at parts part up) at
    where
      at : (own : ℕ) → found own (part_in n part (joined parts)) ≡ found own (part_at parts part)
      at zero = found-below 0 0 (part_in n part (joined parts)) (omega arith) (rise-part 0 0 (joined parts) (rise-joined parts) (λ own l lt. l)) ∙ sym (found-below 0 0 (part_at parts part) (omega arith) (all-at parts part up))
      at (suc own) =
          found-part (suc own) 0 (joined parts) (omega arith) (rise-joined parts)
          ∙ found-joined (joined_id n part (suc own)) parts (omega arith) up
          ∙ (λ i. found (own_id (many i) (joined_id n part (suc own))) (part_at parts (part_of (many i) (joined_id n part (suc own)))))
          ∙ (λ i. found (own-joined n part (suc own) below (omega arith) i) (part_at parts (part-joined n part (suc own) below i)))

-- ---- a point among all, in a part
times_one : (n own : ℕ) → 1 ≤ own → own * n ≡ (own - 1) * n + n
times_one n zero l = absurd (omega (arith, l))
times_one n (suc own) l = let e : suc own - 1 ≡ own = omega arith in suc-mul own n ∙ ap (λ k. k * n + n) (sym e)

pub up_to_point : (n part own id : ℕ) → part < n → 1 ≤ own → joined_id n part own ≤ id → own ≤ point_in n part id
up_to_point n part own id below l le =
    let one = times_one n own l in
    le-div own (id + n - 1 - part) n (omega (arith, below)) (omega (arith, one, le, below))

pub of_point : (n part own id : ℕ) → part < n → 1 ≤ own → own ≤ point_in n part id → joined_id n part own ≤ id
of_point n part own id below l le =
    let one = times_one n own l in
    let most = mul-le own n (point_in n part id) n le (omega arith) in
    let whole = div-mul-le_self (id + n - 1 - part) n in
    omega (arith, one, most, whole, below)
