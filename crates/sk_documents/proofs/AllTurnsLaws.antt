-- What a keeper of several owes, of all parts together.
use Rattle.std.proofs.Common.{◌∙◌, ◌≡◌, ℕ, Bool, true, false, cond, ◌+◌, ◌<◌, ◌≤◌, ◌^◌, ◌⊎◌, inl, inr, List, [], ◌∷◌, ◌++◌, length, map, filter, sum_by, All, refl, sym, ap, arith, subst}
use Rattle.std.specs.List.{AllByRecursion}
use Rattle.std.specs.List.Sorted.{IsPermutation, IsSorted}
use Rattle.std.specs.Ordering.{nat_cmp}
use Rattle.std.proofs.lemmas.Bool.{cases_order}
use Rattle.std.proofs.lemmas.List.Elements.{All-from_recursion, recursion_from_All}
use Rattle.std.proofs.lemmas.List.Sums.{sum_by-cons}
use Rattle.std.proofs.lemmas.List.{length-map}
use Rattle.sk_base.specs.Numbers.{Docs}
use Rattle.sk_base.specs.declared.doc.Doc.{Doc}
use Rattle.sk_base.specs.Documents.{has_term}
use Rattle.sk_sorted.specs.Entries.{RiseAbove, LieBelow, put, ids_of}
use Rattle.sk_sorted.proofs.EntryLaws.{put-after, put-here, put-before, length_fits}
use Rattle.sk_documents.specs.Removing.{ids_with}
use Rattle.sk_sorted.specs.Joined.{joined_id, under, put_all, joined_from, joined, AllRise}
use Rattle.sk_sorted.proofs.JoinedLaws.{rise-joined}
use Rattle.sk_sorted.proofs.JoinedSumLaws.{sums_from, sum-joined}
use Rattle.sk_documents.specs.Turned.{AreTurns}
use Rattle.sk_documents.specs.Gathered.{all_ids_with, AreIds, total}
use Rattle.sk_documents.proofs.GatherLaws.{gathered, gathered_sorted}

-- ---- how many

ones : (es : Docs) → sum_by (λ (e : ℕ × Doc). 1) es ≡ length es
ones [] = refl
ones (e ∷ es) = let a = sum_by-cons (λ (e : ℕ × Doc). 1) e es in omega (arith, a, ones es)

ones_under : (n part : ℕ) (es : Docs) → sum_by (λ (e : ℕ × Doc). 1) (under n part es) ≡ length es
ones_under n part [] = refl
ones_under n part (e ∷ es) = let a = sum_by-cons (λ (e : ℕ × Doc). 1) (joined_id n part e.0, e.1) (under n part es) in omega (arith, a, ones_under n part es)

total_is : (n part : ℕ) (parts : List Docs) → sums_from (λ (e : ℕ × Doc). 1) n part parts ≡ total parts
total_is n part [] = refl
total_is n part (es ∷ parts) = omega (arith, ones_under n part es, total_is n (part + 1) parts)

pub total-joined : (parts : List Docs) → AllRise parts → total parts ≡ length (joined parts)
total-joined parts up = sym (total_is (length parts) 0 parts) ∙ sym (sum-joined (λ (e : ℕ × Doc). 1) parts up) ∙ ones (joined parts)

pub total_fits : (parts : List Docs) → AllRise parts → LieBelow (2 ^ 32) (joined parts) → total parts < 2 ^ 64
total_fits parts up low =
    let few = length_fits (joined parts) (record { rise = rise-joined parts; small = low }) in
    let same = total-joined parts up in
    omega (arith, few, same)

-- ---- ids
put_below : (high id : ℕ) (x : Doc) (es : Docs) → LieBelow high (put id x es) → (id < high) × LieBelow high es
put_below high id x [] low = (low.0, tt)
put_below high id x (e ∷ es) low = by_order (put_below high id x es) (cases_order e.0 id)
  where
    by_order : (LieBelow high (put id x es) → (id < high) × LieBelow high es) → (e.0 ≡ id) ⊎ ((e.0 < id) ⊎ (id < e.0)) → (id < high) × LieBelow high (e ∷ es)
    by_order tail (inl is) = let l = subst (LieBelow high) (put-here id x e es is) low in (omega (arith, l.0, is), (l.0, l.1))
    by_order tail (inr (inl l)) = let m = subst (LieBelow high) (put-after id x e es l) low in let rest = tail m.1 in (rest.0, (m.0, rest.1))
    by_order tail (inr (inr l)) = let m = subst (LieBelow high) (put-before id x e es l) low in (m.0, m.1)

all_below : (high : ℕ) (es fs : Docs) → LieBelow high (put_all es fs) → LieBelow high es × LieBelow high fs
all_below high [] fs low = (tt, low)
all_below high (e ∷ es) fs low =
    let first = put_below high e.0 e.1 (put_all es fs) low in
    let rest = all_below high es fs first.1 in
    ((first.0, rest.0), rest.1)

module _ (t : List ℕ) where
  begun_by : (low : ℕ) (es : Docs) → RiseAbove low es → AllByRecursion (λ (own : ℕ). 1 ≤ own) (ids_with t es)
  begun_by low [] up = tt
  begun_by low (e ∷ es) up = by_test (has_term t e.1.terms) (begun_by e.0 es up.1)
    where
      by_test : (b : Bool) → AllByRecursion (λ (own : ℕ). 1 ≤ own) (ids_with t es) → AllByRecursion (λ (own : ℕ). 1 ≤ own) (ids_of (cond b (e ∷ filter (λ (one : ℕ × Doc). has_term t one.1.terms) es) (filter (λ (one : ℕ × Doc). has_term t one.1.terms) es)))
      by_test true rest = (omega (arith, up.0), rest)
      by_test false rest = rest

  small_by : (high n part : ℕ) (es : Docs) → LieBelow high (under n part es) → AllByRecursion (λ (own : ℕ). joined_id n part own < high) (ids_with t es)
  small_by high n part [] low = tt
  small_by high n part (e ∷ es) low = by_test (has_term t e.1.terms) (small_by high n part es low.1)
    where
      by_test : (b : Bool) → AllByRecursion (λ (own : ℕ). joined_id n part own < high) (ids_with t es) → AllByRecursion (λ (own : ℕ). joined_id n part own < high) (ids_of (cond b (e ∷ filter (λ (one : ℕ × Doc). has_term t one.1.terms) es) (filter (λ (one : ℕ × Doc). has_term t one.1.terms) es)))
      by_test true rest = (low.0, rest)
      by_test false rest = rest

  are_ids : (n part : ℕ) (parts : List Docs) → AllRise parts → LieBelow (2 ^ 32) (joined_from n part parts) → AreIds t n part parts
  are_ids n part [] up low = tt
  are_ids n part (es ∷ parts) up low =
      let both = all_below (2 ^ 32) (under n part es) (joined_from n (part + 1) parts) low in (
        All-from_recursion (λ (own : ℕ). 1 ≤ own) (ids_with t es) (begun_by 0 es up.0),
        (All-from_recursion (λ (own : ℕ). joined_id n part own < 2 ^ 32) (ids_with t es) (small_by (2 ^ 32) n part es both.0), are_ids n (part + 1) parts up.1 both.1),
      )

  gathered_is : (n part : ℕ) (parts : List Docs) → gathered (λ (d : Doc). has_term t d.terms) n part parts ≡ all_ids_with t n part parts
  gathered_is n part [] = refl
  gathered_is n part (es ∷ parts) = ap (λ is. map (joined_id n part) (ids_with t es) ++ is) (gathered_is n (part + 1) parts)

  -- as the code has it
  module _ {K : Type 0} (documents : K → Docs) (parts : List K) (turns : AreTurns documents parts) where
    pub fit_all : AreIds t (length parts) 0 (map documents parts)
    fit_all = subst (λ n. AreIds t n 0 (map documents parts)) (length-map parts documents) (are_ids (length (map documents parts)) 0 (map documents parts) turns.rise turns.small)

    pub sorted_all : (sorted : List ℕ) → IsPermutation (all_ids_with t (length parts) 0 (map documents parts)) sorted → IsSorted nat_cmp sorted → sorted ≡ ids_with t (joined (map documents parts))
    sorted_all sorted same in_order =
        gathered_sorted (λ (d : Doc). has_term t d.terms) (map documents parts) sorted turns.rise
        (subst (λ is. IsPermutation is sorted) (sym (gathered_is (length (map documents parts)) 0 (map documents parts))) (subst (λ n. IsPermutation (all_ids_with t n 0 (map documents parts)) sorted) (sym (length-map parts documents)) same)) in_order

-- ---- keepers without documents
module _ {K : Type 0} (documents : K → Docs) where
  none_rise : (parts : List K) → AllByRecursion (λ part. documents part ≡ []) parts → AllRise (map documents parts)
  none_rise [] none = tt
  none_rise (p ∷ parts) none = (subst (RiseAbove 0) (sym none.0) tt, none_rise parts none.1)

  none_from : (n part : ℕ) (parts : List K) → AllByRecursion (λ part. documents part ≡ []) parts → joined_from n part (map documents parts) ≡ []
  none_from n part [] none = refl
  none_from n part (p ∷ parts) none = (λ i. put_all (under n part (none.0 i)) (none_from n (part + 1) parts none.1 i))

  pub none_joined : (parts : List K) → All (λ part. documents part ≡ []) parts → joined (map documents parts) ≡ []
  none_joined parts none = none_from (length (map documents parts)) 0 parts (recursion_from_All (λ part. documents part ≡ []) parts none)

  pub none_turns : (parts : List K) → 1 ≤ length parts → length parts ≤ 16 → All (λ part. documents part ≡ []) parts → AreTurns documents parts
  none_turns parts some few none = record {
    some = some;
    few = few;
    rise = none_rise parts (recursion_from_All (λ part. documents part ≡ []) parts none);
    small = subst (LieBelow (2 ^ 32)) (sym (none_joined parts none)) tt;
  }
