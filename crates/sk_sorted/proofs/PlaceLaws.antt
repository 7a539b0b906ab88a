-- What a search finds among entries, and what an edit at that place does.
use Rattle.std.proofs.Common.{◌≡◌, ◌≢◌, ℕ, zero, suc, ◌-◌, ◌<◌, ◌≤◌, List, [], ◌∷◌, length, get_or, set, None, Some, Result, Ok, Err, IfOk, IfErr, refl, sym, ap, ◌∙◌, arith}
use Rattle.std.specs.List.{insert, remove}
use Rattle.std.specs.List.Sorted.{IsSearchInRange, IsBinarySearchResult, IsNonDecreasingBy}
use Rattle.std.specs.Ordering.{nat_cmp, ordering_index}
use Rattle.std.proofs.lemmas.Cmp.{ranked}
use Rattle.std.proofs.lemmas.List.Sorted.{IsNonDecreasingBy-from_default}
use Rattle.std.proofs.lemmas.Bool.Decides.{nat_tests}
use Rattle.sk_sorted.specs.Entries.{RiseAbove, put, without, found}
use Rattle.sk_sorted.specs.Places.{id_at, IsAt, IsGapFor}
use Rattle.sk_sorted.proofs.EntryLaws.{put-after, put-here, put-before, without-here, without-other, without-absent, found-here, found-other}

module _ {X : Type 0} where
  -- the id at a place is that of the entry there
  pub id_at-get_or : (es : List (ℕ × X)) (i : ℕ) (d : ℕ × X) → i < length es → (get_or es i d).0 ≡ id_at es i
  id_at-get_or [] i d lt = absurd (omega arith)
  id_at-get_or (e ∷ es) zero d lt = refl
  id_at-get_or (e ∷ es) (suc i) d lt = id_at-get_or es i d (omega arith)

  -- each id is above the bound
  pub ids_above : (low : ℕ) (es : List (ℕ × X)) → RiseAbove low es → (i : ℕ) → i < length es → low < id_at es i
  ids_above low [] up i lt = absurd (omega arith)
  ids_above low (e ∷ es) up zero lt = up.0
  ids_above low (e ∷ es) up (suc i) lt = omega (arith, up.0, ids_above e.0 es up.1 i (omega arith))

  -- of two places the later has the greater id
  pub ids_rise : (low : ℕ) (es : List (ℕ × X)) → RiseAbove low es → (i j : ℕ) → i < j → j < length es → id_at es i < id_at es j
  ids_rise low [] up i j below lt = absurd (omega arith)
  ids_rise low (e ∷ es) up i zero below lt = absurd (omega arith)
  ids_rise low (e ∷ es) up zero (suc j) below lt = ids_above e.0 es up.1 j (omega arith)
  ids_rise low (e ∷ es) up (suc i) (suc j) below lt = ids_rise e.0 es up.1 i j (omega arith) (omega arith)

  module _ (es : List (ℕ × X)) (up : RiseAbove 0 es) (id : ℕ) where
    -- the comparisons with the id rise along the list, as a binary search asks
    comparisons_rise : (d : ℕ × X) → IsNonDecreasingBy (λ (e : ℕ × X). ordering_index (nat_cmp e.0 id)) es
    comparisons_rise d = IsNonDecreasingBy-from_default (λ (e : ℕ × X). ordering_index (nat_cmp e.0 id)) es d (λ i j le lt.
        let first = id_at-get_or es i d (omega arith) in
        let second = id_at-get_or es j d lt in
        let ids : (get_or es i d).0 ≤ (get_or es j d).0 = grind (arith, first, second, ids_rise 0 es up i j, λ (same : i ≡ j). ap (id_at es) same) in
        grind (arith, nat_tests))

    -- a binary search by id ends at the id, or at the gap for it
    pub searched : (d : ℕ × X) (r : Result ℕ ℕ) → IsSearchInRange r (length es) → IsBinarySearchResult (λ (e : ℕ × X). nat_cmp e.0 id) es r → record { found : IfOk r (IsAt es id); absent : IfErr r (IsGapFor es id) }
    searched d (Ok at) lt equal = record { found = record { in_range = lt; has_id = sym (id_at-get_or es at d lt) ∙ ranked _ id _ (sym (equal d)) }; absent = tt }
    searched d (Err at) le parted = record {
      found = tt;
      absent = record {
        in_range = le;
        smaller_before = λ j lt. let less : (get_or es j d).0 < id = ranked _ id _ (sym ((parted (comparisons_rise d)).0 j d (omega arith) lt)) in omega (arith, less, id_at-get_or es j d (omega arith));
        greater_after = λ j from lt. let more : id < (get_or es j d).0 = ranked _ id _ (sym ((parted (comparisons_rise d)).1 j d from lt)) in omega (arith, more, id_at-get_or es j d lt);
      };
    }

    -- an id above the last one would go to the end
    pub gap_at_end : (last : ℕ) → 0 < length es → id_at es (length es - 1) ≡ last → last < id → IsGapFor es id (length es)
    gap_at_end last some here above = record {
      in_range = omega arith;
      smaller_before = λ j lt. grind (arith, ids_rise 0 es up j (length es - 1), λ (same : j ≡ length es - 1). ap (id_at es) same);
      greater_after = λ j from lt. absurd (omega arith);
    }

  -- the tail's gap
  gap_tail : (e : ℕ × X) (es : List (ℕ × X)) (id i : ℕ) → IsGapFor (e ∷ es) id (suc i) → IsGapFor es id i
  gap_tail e es id i gap = record {
    in_range = omega (arith, gap.in_range);
    smaller_before = λ j lt. gap.smaller_before (suc j) (omega arith);
    greater_after = λ j from lt. gap.greater_after (suc j) (omega arith) (omega arith);
  }

  -- the tail's place
  at_tail : (e : ℕ × X) (es : List (ℕ × X)) (id i : ℕ) → IsAt (e ∷ es) id (suc i) → IsAt es id i
  at_tail e es id i here = record { in_range = omega (arith, here.in_range); has_id = here.has_id }

  -- the first of entries whose place for the id is later is below it
  first_below : (low : ℕ) (e : ℕ × X) (es : List (ℕ × X)) (id i : ℕ) → RiseAbove low (e ∷ es) → IsAt (e ∷ es) id (suc i) → e.0 < id
  first_below low e es id i up here = omega (arith, ids_above e.0 es up.1 i (omega (arith, here.in_range)), here.has_id)

  -- another one at the id's place is put
  pub put_at : (low : ℕ) (es : List (ℕ × X)) (id : ℕ) (x : X) (i : ℕ) (d : ℕ × X) → RiseAbove low es → IsAt es id i → set es i ((get_or es i d).0, x) ≡ put id x es
  put_at low [] id x i d up here = absurd (omega (arith, here.in_range))
  put_at low (e ∷ es) id x zero d up here = sym (put-here id x e es here.has_id)
  put_at low (e ∷ es) id x (suc i) d up here =
      ap (λ (l : List (ℕ × X)). e ∷ l) (put_at e.0 es id x i d up.1 (at_tail e es id i here)) ∙ sym (put-after id x e es (first_below low e es id i up here))

  -- the same where the entry is read
  pub put_over : (es : List (ℕ × X)) (id : ℕ) (x y : X) (i : ℕ) (e : ℕ × X) → RiseAbove 0 es → IsAt es id i → e ≡ get_or es i e → y ≡ x → set es i (e.0, y) ≡ put id x es
  put_over es id x y i e up here is same = (λ k. set es i ((is k).0, same k)) ∙ put_at 0 es id x i e up here

  -- a new entry in the gap is put
  pub put_in_gap : (es : List (ℕ × X)) (id : ℕ) (x : X) (i : ℕ) → IsGapFor es id i → insert es i (id, x) ≡ put id x es
  put_in_gap [] id x zero gap = refl
  put_in_gap [] id x (suc i) gap = absurd (omega (arith, gap.in_range))
  put_in_gap (e ∷ es) id x zero gap = sym (put-before id x e es (gap.greater_after 0 (omega arith) (omega arith)))
  put_in_gap (e ∷ es) id x (suc i) gap =
      ap (λ (l : List (ℕ × X)). e ∷ l) (put_in_gap es id x i (gap_tail e es id i gap)) ∙ sym (put-after id x e es (gap.smaller_before 0 (omega arith)))

  -- the entry at the id's place, taken out
  pub without_at : (low : ℕ) (es : List (ℕ × X)) (id i : ℕ) → RiseAbove low es → IsAt es id i → remove es i ≡ without id es
  without_at low [] id i up here = absurd (omega (arith, here.in_range))
  without_at low (e ∷ es) id zero up here = sym (without-here id e es here.has_id)
  without_at low (e ∷ es) id (suc i) up here =
      ap (λ (l : List (ℕ × X)). e ∷ l) (without_at e.0 es id i up.1 (at_tail e es id i here))
      ∙ sym (without-other id e es (λ same. omega (arith, first_below low e es id i up here, same)))

  -- what stands at the id's place is found
  pub found_at : (low : ℕ) (es : List (ℕ × X)) (id i : ℕ) (d : ℕ × X) → RiseAbove low es → IsAt es id i → found id es ≡ Some (get_or es i d).1
  found_at low [] id i d up here = absurd (omega (arith, here.in_range))
  found_at low (e ∷ es) id zero d up here = found-here id e es here.has_id
  found_at low (e ∷ es) id (suc i) d up here =
      found-other id e es (λ same. omega (arith, first_below low e es id i up here, same)) ∙ found_at e.0 es id i d up.1 (at_tail e es id i here)

  -- the same where the entry is read
  pub found_read : (es : List (ℕ × X)) (id i : ℕ) (e : ℕ × X) → RiseAbove 0 es → IsAt es id i → e ≡ get_or es i e → Some e.1 ≡ found id es
  found_read es id i e up here is = (λ k. Some (is k).1) ∙ sym (found_at 0 es id i e up here)

  -- an id that no place has is not found
  found_nowhere : (es : List (ℕ × X)) (id : ℕ) → ((j : ℕ) → j < length es → id_at es j ≢ id) → found id es ≡ None
  found_nowhere [] id apart = refl
  found_nowhere (e ∷ es) id apart = found-other id e es (apart 0 (omega arith)) ∙ found_nowhere es id (λ j lt. apart (suc j) (omega arith))

  -- an id that has a gap is not found
  pub found_in_gap : (es : List (ℕ × X)) (id i : ℕ) → IsGapFor es id i → found id es ≡ None
  found_in_gap es id i gap = found_nowhere es id (λ j lt same. grind (arith, gap.smaller_before j, gap.greater_after j))

  -- so it cannot be taken out
  pub without_in_gap : (es : List (ℕ × X)) (id i : ℕ) → IsGapFor es id i → without id es ≡ es
  without_in_gap es id i gap = without-absent id es (found_in_gap es id i gap)
