-- What a cursor's steps from piece to piece are to the whole list.
use Rattle.std.proofs.Common.{◌≡◌, ℕ, ◌+◌, ◌-◌, ◌<◌, ◌≤◌, List, [], ◌∷◌, ◌++◌, length, drop, get_or, true, false, is_some, Option, Some, None, sym, ap, subst, ◌∙◌, arith, true≢false, inl, inr}
use Rattle.std.proofs.lemmas.Bool.{cases_order}
use Rattle.std.proofs.lemmas.List.{drop_all, length-append, length-drop, get_or_default}
use Rattle.std.proofs.lemmas.List.Elements.{filter-append}
use Rattle.sk_sorted.specs.Entries.{LieBelow, from, top_id}
use Rattle.sk_sorted.specs.Places.{id_at}
use Rattle.sk_sorted.proofs.EntryLaws.{LieBelow-drop, from-at, from-append, from-front_append}
use Rattle.sk_sorted.specs.Runs.{flat, AreRuns, IsPlace}
use Rattle.sk_sorted.proofs.RunLaws.{below-top, run_rises}
use Rattle.sk_sorted.proofs.RunPlaceLaws.{place_drop, place_end, place_on, place_next, place_within, rises_behind}
use Rattle.sk_model.specs.Ranges.{is_within}
use Rattle.sk_values.specs.SlotValues.{SlotValues, SlotRuns, value_at_place}
use Rattle.sk_values.specs.RangeCursor.{in_range, ahead, IsStop, IsHeadAt}
use Rattle.sk_values.proofs.ValueLaws.{drop-entry}

-- ---- one entry

-- an entry of a piece stands in the whole as well
pub record IsSameEntry (es : SlotValues) (j : ℕ) (run : SlotValues) (k : ℕ) : Type 0 where
  pub there : j < length es
  pub id : id_at es j ≡ id_at run k
  pub value : value_at_place es j ≡ value_at_place run k

same_entry : (runs : SlotRuns) (i k before : ℕ) → i < length runs → k < length (get_or runs i []) → IsPlace runs i k before → IsSameEntry (flat runs) before (get_or runs i []) k
same_entry runs i k before lt less at =
    let run : SlotValues = get_or runs i [] in
    let rest : SlotValues = flat (drop (i + 1) runs) in
    let split : drop before (flat runs) ≡ drop k run ++ rest = place_drop runs i k before lt at in
    let there : before < length (flat runs) = omega (arith, ap length split, length-append (drop k run) rest, length-drop k run, length-drop before (flat runs), less) in
    let both : (id_at (flat runs) before, value_at_place (flat runs) before) ≡ (id_at run k, value_at_place run k)
    = ap (λ (es : SlotValues). get_or es 0 (0, [])) (sym (drop-entry (flat runs) before there) ∙ split ∙ ap (λ (es : SlotValues). es ++ rest) (drop-entry run k less)) in
    record {
      there = there;
      id = ap (λ (e : ℕ × List ℕ). e.0) both;
      value = ap (λ (e : ℕ × List ℕ). e.1) both;
    }

-- where an entry stands behind the front of a piece, that piece is there
pub piece_there : (runs : SlotRuns) (at passed i : ℕ) → IsPlace runs at 0 passed → passed ≤ i → i < length (flat runs) → at < length runs
piece_there runs at passed i place le lt = elim (cases_order (length runs) at) [
  | inl end ↦ absurd (omega (arith, le, lt, place_end runs at 0 passed (omega (arith, end)) place))
  | inr apart ↦ elim apart [ inl end ↦ absurd (omega (arith, le, lt, place_end runs at 0 passed (omega (arith, end)) place)) | inr there ↦ there ]
]

-- the entry that a place stands before, in its piece
pub entry_at : (runs now : SlotRuns) (at passed i : ℕ) (run : SlotValues) → runs ≡ now → at < length runs → IsPlace runs at 0 passed → passed ≤ i → i < passed + length (get_or runs at []) → run ≡ get_or runs at run
    → IsSameEntry (flat now) i run (i - passed)
entry_at runs now at passed i run view lt place le less is =
    let here : run ≡ get_or runs at [] = is ∙ get_or_default runs at run [] lt in
    let whole : passed + ((i - passed) - 0) ≡ i = omega (arith, le) in
    let on : IsPlace runs at (i - passed) i = subst (λ n. IsPlace runs at (i - passed) n) whole (place_on runs at 0 passed (i - passed) place (omega arith) (omega (arith, less, le))) in
    subst (λ (s : SlotRuns). IsSameEntry (flat s) i run (i - passed)) view (subst (λ (r : SlotValues). IsSameEntry (flat runs) i r (i - passed)) (sym here) (same_entry runs at (i - passed) i lt (omega (arith, less, le)) on))

-- the place one entry before
pub place_before : (runs : SlotRuns) (i read passed : ℕ) → 0 < read → IsPlace runs i read passed → IsPlace runs i (read - 1) (passed - 1)
place_before runs i read passed some at = record { bound = at.bound; within = omega (arith, at.within); counted = omega (arith, at.counted, some) }

-- ---- reading in a piece

module _ (lo hi : Option (List ℕ)) (runs : SlotRuns) (i read passed : ℕ) (lt : i < length runs) (at : IsPlace runs i read passed) where
  -- what lies in the range behind two places of a piece is the same in the whole if it is in the piece
  range_behind : (next passed2 : ℕ) → IsPlace runs i next passed2 → in_range lo hi (drop next (get_or runs i [])) ≡ in_range lo hi (drop read (get_or runs i []))
      → in_range lo hi (drop passed2 (flat runs)) ≡ in_range lo hi (drop passed (flat runs))
  range_behind next passed2 later e =
      let run : SlotValues = get_or runs i [] in
      let rest : SlotValues = flat (drop (i + 1) runs) in
      ap (in_range lo hi) (place_drop runs i next passed2 lt later) ∙ filter-append (λ (e : ℕ × List ℕ). is_within lo hi e.1) (drop next run) rest
      ∙ ap (λ (es : SlotValues). es ++ in_range lo hi rest) e
      ∙ sym (filter-append (λ (e : ℕ × List ℕ). is_within lo hi e.1) (drop read run) rest) ∙ ap (in_range lo hi) (sym (place_drop runs i read passed lt at))

  -- a stop in the piece is one in the whole
  stop_whole : (id next passed2 : ℕ) → IsPlace runs i next passed2 → IsStop lo hi id next (get_or runs i []) → IsStop lo hi id passed2 (flat runs)
  stop_whole id next passed2 later stop =
      let same = same_entry runs i (next - 1) (passed2 - 1) lt (omega (arith, stop.begun, stop.within)) (place_before runs i next passed2 stop.begun later) in
      record {
        begun = omega (arith, stop.begun, later.counted);
        within = place_within runs i next passed2 later;
        is = same.id ∙ stop.is;
        inside = ap (is_within lo hi) same.value ∙ stop.inside;
      }

  -- what a reading in the piece found
  module _ (run : SlotValues) (is : run ≡ get_or runs i []) (head : Option ℕ) (next : ℕ) (onward : read ≤ next) (on : IsHeadAt lo hi head next run) where
    pub here : IsHeadAt lo hi head next (get_or runs i [])
    here = subst (λ (es : SlotValues). IsHeadAt lo hi head next es) is on

    -- it came so far
    next_within : (o : Option ℕ) (n : ℕ) (es : SlotValues) → IsHeadAt lo hi o n es → n ≤ length es
    next_within None n es e = omega (arith, e)
    next_within (Some id) n es stop = stop.within

    pub next_place : IsPlace runs i next (passed + (next - read))
    next_place = place_on runs i read passed next at onward (next_within head next (get_or runs i []) here)

    pub next_fits : passed + (next - read) ≤ length (flat runs)
    next_fits = place_within runs i next (passed + (next - read)) next_place

    -- a stop
    pub stops : is_some head ≡ true → IsHeadAt lo hi head (passed + (next - read)) (flat runs)
    stops some = by head some here
      where
        by : (o : Option ℕ) → is_some o ≡ true → IsHeadAt lo hi o next (get_or runs i []) → IsHeadAt lo hi o (passed + (next - read)) (flat runs)
        by None e stop = absurd (true≢false (sym e))
        by (Some id) e stop = stop_whole id next (passed + (next - read)) next_place stop

    -- none, so the piece is at its end
    pub ended : is_some head ≡ false → next ≡ length (get_or runs i [])
    ended none = by head none here
      where
        by : (o : Option ℕ) → is_some o ≡ false → IsHeadAt lo hi o next (get_or runs i []) → next ≡ length (get_or runs i [])
        by None e end = end
        by (Some id) e stop = absurd (true≢false e)

    pub goes_on : is_some head ≡ false → IsPlace runs (i + 1) 0 (passed + (next - read))
    goes_on none = subst (λ n. IsPlace runs (i + 1) 0 (passed + (n - read))) (sym (ended none)) (place_next runs i read passed lt at)

    -- what lies in the range behind that
    module _ (left : in_range lo hi (ahead head next run) ≡ in_range lo hi (drop read run)) where
      left_here : in_range lo hi (ahead head next (get_or runs i [])) ≡ in_range lo hi (drop read (get_or runs i []))
      left_here = subst (λ (es : SlotValues). in_range lo hi (ahead head next es) ≡ in_range lo hi (drop read es)) is left

      pub stops_left : is_some head ≡ true → in_range lo hi (ahead head (passed + (next - read)) (flat runs)) ≡ in_range lo hi (drop passed (flat runs))
      stops_left some = by head some here left_here
        where
          by : (o : Option ℕ) → is_some o ≡ true → IsHeadAt lo hi o next (get_or runs i []) → in_range lo hi (ahead o next (get_or runs i [])) ≡ in_range lo hi (drop read (get_or runs i []))
              → in_range lo hi (ahead o (passed + (next - read)) (flat runs)) ≡ in_range lo hi (drop passed (flat runs))
          by None e stop l = absurd (true≢false (sym e))
          by (Some id) e stop l = range_behind (next - 1) (passed + (next - read) - 1) (place_before runs i next (passed + (next - read)) stop.begun next_place) l

      pub goes_on_left : is_some head ≡ false → in_range lo hi (drop (passed + (next - read)) (flat runs)) ≡ in_range lo hi (drop passed (flat runs))
      goes_on_left none = range_behind next (passed + (next - read)) next_place (ap (in_range lo hi) (drop_all next (get_or runs i []) (omega (arith, ended none))) ∙ by head none left_here)
        where
          by : (o : Option ℕ) → is_some o ≡ false → in_range lo hi (ahead o next (get_or runs i [])) ≡ in_range lo hi (drop read (get_or runs i [])) → [] ≡ in_range lo hi (drop read (get_or runs i []))
          by None e l = l
          by (Some id) e l = absurd (true≢false e)

-- ---- passing over pieces

module _ (runs : SlotRuns) (i read passed : ℕ) (lt : i < length runs) (at : IsPlace runs i read passed) (count : ℕ) (counted : count ≡ length (get_or runs i [])) where
  -- the front of the next piece
  pub next_front : IsPlace runs (i + 1) 0 (passed + (count - read))
  next_front = subst (λ n. IsPlace runs (i + 1) 0 (passed + (n - read))) (sym counted) (place_next runs i read passed lt at)

  end : IsPlace runs i count (passed + (count - read))
  end = place_on runs i read passed count at (omega (arith, counted, at.within)) (omega (arith, counted))

  pub next_counts : passed + (count - read) ≤ length (flat runs)
  next_counts = place_within runs i count (passed + (count - read)) end

  -- what lies in the range behind it, where the rest of the piece has nothing there
  pub next_left : (lo hi : Option (List ℕ)) → in_range lo hi (drop read (get_or runs i [])) ≡ [] → in_range lo hi (drop (passed + (count - read)) (flat runs)) ≡ in_range lo hi (drop passed (flat runs))
  next_left lo hi none =
      range_behind lo hi runs i read passed lt at count (passed + (count - read)) end
      (ap (in_range lo hi) (drop_all count (get_or runs i []) (omega (arith, counted))) ∙ sym none)

-- where the next entry of the piece is not below the target, nothing is passed over
pub next_reaches : (runs : SlotRuns) (i read passed target : ℕ) → i < length runs → IsPlace runs i read passed → read < length (get_or runs i []) → target ≤ id_at (get_or runs i []) read
    → drop passed (flat runs) ≡ from target (drop passed (flat runs))
next_reaches runs i read passed target lt at less le =
    let run : SlotValues = get_or runs i [] in
    let rest : SlotValues = drop (read + 1) run ++ flat (drop (i + 1) runs) in
    let split : drop passed (flat runs) ≡ (id_at run read, value_at_place run read) ∷ rest
    = place_drop runs i read passed lt at ∙ ap (λ (es : SlotValues). es ++ flat (drop (i + 1) runs)) (drop-entry run read less) in
    split ∙ sym (from-at target (id_at run read, value_at_place run read) rest le) ∙ ap (from target) (sym split)

module _ (runs : SlotRuns) (are : AreRuns runs) (i read passed target : ℕ) (lt : i < length runs) (at : IsPlace runs i read passed) (run : SlotValues) (is : run ≡ get_or runs i []) where
  rest : SlotValues
  rest = flat (drop (i + 1) runs)

  -- the target lies in the piece, or before what stands behind that
  pub found_here : (next : ℕ) → read ≤ next → next ≤ length run → target ≤ top_id 0 run → drop next run ≡ from target (drop read run)
      → record { at : IsPlace runs i next (passed + (next - read)); left : drop (passed + (next - read)) (flat runs) ≡ from target (drop passed (flat runs)) }
  unfolding rest
  found_here next onward within reaches left =
      let there : IsPlace runs i next (passed + (next - read)) = place_on runs i read passed next at onward (subst (λ (es : SlotValues). next ≤ length es) is within) in
      let own : drop next (get_or runs i []) ≡ from target (drop read (get_or runs i [])) = subst (λ (es : SlotValues). drop next es ≡ from target (drop read es)) is left in
      let top : target ≤ top_id 0 (get_or runs i []) = subst (λ (es : SlotValues). target ≤ top_id 0 es) is reaches in
      record {
        at = there;
        left = place_drop runs i next (passed + (next - read)) lt there ∙ ap (λ (es : SlotValues). es ++ rest) own
            ∙ sym (from-front_append (top_id 0 (get_or runs i [])) target (drop read (get_or runs i [])) rest (omega (arith, top)) (rises_behind runs i are.rise lt))
            ∙ ap (from target) (sym (place_drop runs i read passed lt at));
      }

  -- the piece ends below the target
  pub passed_by : top_id 0 run < target → record { at : IsPlace runs (i + 1) 0 (passed + (length run - read)); left : from target (drop (passed + (length run - read)) (flat runs)) ≡ from target (drop passed (flat runs)) }
  unfolding rest
  passed_by ends =
      let piece : SlotValues = get_or runs i [] in
      let below : LieBelow target (drop read piece) = LieBelow-drop target read piece (below-top 0 target piece (run_rises 0 runs i [] are.rise lt) (subst (λ (es : SlotValues). top_id 0 es < target) is ends)) in
      let end : IsPlace runs i (length piece) (passed + (length piece - read)) = place_on runs i read passed (length piece) at at.within (omega arith) in
      let behind : drop (passed + (length piece - read)) (flat runs) ≡ rest = place_drop runs i (length piece) (passed + (length piece - read)) lt end ∙ ap (λ (es : SlotValues). es ++ rest) (drop_all (length piece) piece (omega arith)) in
      subst (λ (es : SlotValues). record { at : IsPlace runs (i + 1) 0 (passed + (length es - read)); left : from target (drop (passed + (length es - read)) (flat runs)) ≡ from target (drop passed (flat runs)) }) (sym is)
      (record {
        at = place_next runs i read passed lt at;
        left = ap (from target) behind ∙ sym (from-append target (drop read piece) rest below) ∙ ap (from target) (sym (place_drop runs i read passed lt at));
      })

  -- so the place is at the front of the next one, and passed over what lies below the target
  pub passes_on : top_id 0 run < target → (start count : ℕ) → count ≡ length run → start ≤ passed → from target (drop passed (flat runs)) ≡ from target (drop start (flat runs)) → record {
    at : IsPlace runs (i + 1) 0 (passed + (count - read));
    behind : start ≤ passed + (count - read);
    left : from target (drop (passed + (count - read)) (flat runs)) ≡ from target (drop start (flat runs));
  }
  passes_on ends start count counted le left =
      let step = passed_by ends in
      record {
        at = subst (λ n. IsPlace runs (i + 1) 0 (passed + (n - read))) (sym counted) step.at;
        behind = omega (arith, le);
        left = ap (λ n. from target (drop (passed + (n - read)) (flat runs))) counted ∙ step.left ∙ left;
      }
