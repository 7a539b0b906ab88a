-- What is given of the entries of parts, by a function for each part: together it is what is given of all, and one part moves alone.
use Rattle.std.proofs.Common.{◌∙◌, ◌≡◌, ◌≤◌, ◌<◌, ◌+◌, ℕ, zero, suc, List, [], ◌∷◌, length, set, Option, None, Some, refl, sym, ap, arith}
use Rattle.sk_sorted.specs.Entries.{RiseAbove}
use Rattle.sk_sorted.specs.Joined.{part_of, own_id, joined, part_at, AllRise, given, given_each, give_at, give_joined}
use Rattle.sk_sorted.proofs.MergeLaws.{rise-given, given-joined}

module _ {X Y : Type 0} where
  pub length-given_each : (gives : List (ℕ → Option Y)) (parts : List (List (ℕ × X))) → length gives ≡ length parts → length (given_each gives parts) ≡ length parts
  length-given_each [] [] same = refl
  length-given_each [] (es ∷ parts) same = absurd (omega (arith, same))
  length-given_each (give ∷ gives) [] same = absurd (omega (arith, same))
  length-given_each (give ∷ gives) (es ∷ parts) same = ap suc (length-given_each gives parts (omega (arith, same)))

  pub rise-given_each : (gives : List (ℕ → Option Y)) (parts : List (List (ℕ × X))) → AllRise parts → AllRise (given_each gives parts)
  rise-given_each [] parts up = tt
  rise-given_each (give ∷ gives) [] up = tt
  rise-given_each (give ∷ gives) (es ∷ parts) up = (rise-given give 0 es up.0, rise-given_each gives parts up.1)

  pub part_at-given_each : (gives : List (ℕ → Option Y)) (parts : List (List (ℕ × X))) (part : ℕ) → length gives ≡ length parts → part_at (given_each gives parts) part ≡ given (give_at gives part) (part_at parts part)
  part_at-given_each [] [] part same = refl
  part_at-given_each [] (es ∷ parts) part same = absurd (omega (arith, same))
  part_at-given_each (give ∷ gives) [] part same = absurd (omega (arith, same))
  part_at-given_each (give ∷ gives) (es ∷ parts) zero same = refl
  part_at-given_each (give ∷ gives) (es ∷ parts) (suc part) same = part_at-given_each gives parts part (omega (arith, same))

  -- together they are what is given of all
  pub joined-given_each : (gives : List (ℕ → Option Y)) (parts : List (List (ℕ × X))) → length gives ≡ length parts → AllRise parts → joined (given_each gives parts) ≡ given (give_joined (length parts) gives) (joined parts)
  joined-given_each gives parts same up =
      given-joined parts (given_each gives parts) (give_joined (length parts) gives) (give_at gives) (length-given_each gives parts same) up (rise-given_each gives parts up)
      (λ part. part_at-given_each gives parts part same) (λ id l. refl)

-- ---- one part moves
module _ {Y : Type 0} where
  pub give_at-set_same : (gives : List (ℕ → Option Y)) (part own : ℕ) (give : ℕ → Option Y) → part < length gives → give_at (set gives part give) part own ≡ give own
  give_at-set_same [] part own give l = absurd (omega (arith, l))
  give_at-set_same (g ∷ gives) zero own give l = refl
  give_at-set_same (g ∷ gives) (suc part) own give l = give_at-set_same gives part own give (omega (arith, l))

  pub give_at-set_other : (gives : List (ℕ → Option Y)) (part other own : ℕ) (give : ℕ → Option Y) → (other ≡ part → ⊥) → give_at (set gives part give) other own ≡ give_at gives other own
  give_at-set_other [] part other own give apart = refl
  give_at-set_other (g ∷ gives) zero zero own give apart = absurd (apart refl)
  give_at-set_other (g ∷ gives) zero (suc other) own give apart = refl
  give_at-set_other (g ∷ gives) (suc part) zero own give apart = refl
  give_at-set_other (g ∷ gives) (suc part) (suc other) own give apart = give_at-set_other gives part other own give (λ same. apart (ap suc same))

  pub give_joined-set_same : (n : ℕ) (gives : List (ℕ → Option Y)) (part id : ℕ) (give : ℕ → Option Y) → part < length gives → part_of n id ≡ part → give_joined n (set gives part give) id ≡ give (own_id n id)
  give_joined-set_same n gives part id give l here = ap (λ p. give_at (set gives part give) p (own_id n id)) here ∙ give_at-set_same gives part (own_id n id) give l

  pub give_joined-set_other : (n : ℕ) (gives : List (ℕ → Option Y)) (part id : ℕ) (give : ℕ → Option Y) → (part_of n id ≡ part → ⊥) → give_joined n (set gives part give) id ≡ give_joined n gives id
  give_joined-set_other n gives part id give there = give_at-set_other gives part (part_of n id) (own_id n id) give there
