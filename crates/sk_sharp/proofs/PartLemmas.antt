-- The documents of a part are light and few, and the greatest of what no document of a part can weigh more than, part by part.
use Rattle.std.proofs.Common.{◌≡◌, ◌≤◌, ◌<◌, ◌+◌, ◌-◌, ◌^◌, ◌==◌, ℕ, suc, Bool, true, false, cond, max, [], ◌∷◌, length, map, All, Some, None, ap, arith}
use Rattle.std.specs.List.{cons_option}
use Rattle.std.proofs.lemmas.List.Elements.{All-from_recursion, recursion_from_All}
use Rattle.sk_sorted.specs.Joined.{part_of, own_id, part_in, parts_from}
use Rattle.sk_base.specs.declared.doc.Doc.{Doc}
use Rattle.sk_base.specs.declared.find.Scheme.{Scheme}
use Rattle.sk_base.specs.Loads.{IsLight}
use Rattle.sk_base.specs.Numbers.{Docs}
use Rattle.sk_query.specs.Trees.{Tree}
use Rattle.sk_query.specs.Fits.{is_sound, leaves_of}
use Rattle.sk_model.specs.Bounds.{ceil, greatest_in}
use Rattle.sk_model.specs.Joined.{joined_ceil}
use Rattle.sk_model.proofs.JoinedLaws.{all_part_in}
use Rattle.sk_model.proofs.WeightLaws.{ceil_small}

pub part_light : (n part : ℕ) (docs : Docs) → All IsLight docs → All IsLight (part_in n part docs)
part_light n part docs light = All-from_recursion IsLight (part_in n part docs) (all_part_in (λ (d : Doc). IsLight (0, d)) n part docs (recursion_from_All IsLight docs light))

pub part_few : (n part : ℕ) (docs : Docs) → length (part_in n part docs) ≤ length docs
part_few n part [] = omega arith
part_few n part (e ∷ es) = by_part (part_of n e.0 == part) (part_few n part es)
  where
    by_part : (b : Bool) → length (part_in n part es) ≤ length es → length (cons_option (cond b (Some (own_id n e.0, e.1)) None) (part_in n part es)) ≤ length (e ∷ es)
    by_part true le = omega (arith, le)
    by_part false le = omega (arith, le)

pub part_ceil_small : (query : Tree) (scheme : Scheme) (n part : ℕ) (docs : Docs) → is_sound 1 query ≡ true → leaves_of query ≤ 1024 → All IsLight docs → ceil query scheme 1 (part_in n part docs) < 2 ^ 127
part_ceil_small query scheme n part docs sound few light =
    let small : ceil query scheme 1 (part_in n part docs) ≤ 2 ^ 84 = ceil_small scheme (part_in n part docs) (part_light n part docs light) query 1 sound (omega arith) few in
    omega (arith, small)

module _ (query : Tree) (scheme : Scheme) (n : ℕ) (docs : Docs) where
  abbrev left_from : ℕ → ℕ
  left_from part = greatest_in (map (λ es. ceil query scheme 1 es) (parts_from (n - part) n part docs))

  ceil_first : (part : ℕ) → part < n → left_from part ≡ max (ceil query scheme 1 (part_in n part docs)) (left_from (part + 1))
  ceil_first part below = ap (λ k. greatest_in (map (λ es. ceil query scheme 1 es) (parts_from k n part docs))) more
    where
      more : n - part ≡ suc (n - (part + 1))
      more = omega (arith, below)

  pub ceil_next : (part greatest own now : ℕ) → part < n → own ≡ ceil query scheme 1 (part_in n part docs) → now ≡ max own greatest
      → max greatest (left_from part) ≡ joined_ceil n query scheme docs → max now (left_from (part + 1)) ≡ joined_ceil n query scheme docs
  ceil_next part greatest own now below own_is now_is before = let first = ceil_first part below in omega (arith, own_is, now_is, before, first)
