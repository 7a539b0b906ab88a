-- Laws of a cursor over a range: what its head says of what is left, and how it moves.
use Rattle.std.proofs.Common.{◌≡◌, ℕ, ◌+◌, ◌-◌, ◌<◌, ◌≤◌, true, false, cond, List, [], ◌∷◌, length, drop, Option, None, Some, IfSome, inl, inr, refl, sym, ap, subst, ◌∙◌, arith, true≢false}
use Rattle.std.proofs.lemmas.Bool.{cases_lt, ltb-true, ltb-false}
use Rattle.std.proofs.lemmas.List.{drop_all}
use Rattle.sk_sorted.specs.Entries.{RiseAbove, AreSorted, from, first_id}
use Rattle.sk_sorted.specs.Places.{id_at}
use Rattle.sk_sorted.proofs.EntryLaws.{RiseAbove-lower, RiseAbove-drop, from-below, from-at, from-above}
use Rattle.sk_sorted.specs.Runs.{flat}
use Rattle.sk_model.specs.Ranges.{is_within}
use Rattle.sk_values.specs.declared.range_cursor.RangeCursor.{RangeCursor}
use Rattle.sk_values.specs.SlotValues.{SlotValues, SlotRuns, value_at_place}
use Rattle.sk_values.specs.RangeCursor.{in_range, unread, ahead, left, IsStop, IsEndOf, IsHeadAt, IsOn, is_head_below}
use Rattle.sk_values.proofs.ValueLaws.{drop-entry}

module _ (lo hi : Option (List ℕ)) where
  -- an entry in the range, and one that is not
  pub in_range-here : (e : ℕ × List ℕ) (es : SlotValues) → is_within lo hi e.1 ≡ true → in_range lo hi (e ∷ es) ≡ e ∷ in_range lo hi es
  in_range-here e es inside = ap (λ b. cond b (e ∷ in_range lo hi es) (in_range lo hi es)) inside

  pub in_range-not : (e : ℕ × List ℕ) (es : SlotValues) → is_within lo hi e.1 ≡ false → in_range lo hi (e ∷ es) ≡ in_range lo hi es
  in_range-not e es outside = ap (λ b. cond b (e ∷ in_range lo hi es) (in_range lo hi es)) outside

  -- what lies in the range rises as all entries do
  pub RiseAbove-in_range : (low : ℕ) (es : SlotValues) → RiseAbove low es → RiseAbove low (in_range lo hi es)
  RiseAbove-in_range low [] up = tt
  RiseAbove-in_range low (e ∷ es) up =
      elim (is_within lo hi e.1) as (λ b. is_within lo hi e.1 ≡ b → RiseAbove low (in_range lo hi (e ∷ es))) [
        | true ↦ λ inside. subst (RiseAbove low) (sym (in_range-here e es inside)) (up.0, RiseAbove-in_range e.0 es up.1)
        | false ↦ λ outside. subst (RiseAbove low) (sym (in_range-not e es outside)) (RiseAbove-lower low e.0 (in_range lo hi es) (omega (arith, up.0)) (RiseAbove-in_range e.0 es up.1))
      ] refl

  -- a target passes over the entries in the range as it does over all
  pub in_range-from : (low target : ℕ) (es : SlotValues) → RiseAbove low es → from target (in_range lo hi es) ≡ in_range lo hi (from target es)
  in_range-from low target [] up = refl
  in_range-from low target (e ∷ es) up =
      elim (is_within lo hi e.1) as (λ b. is_within lo hi e.1 ≡ b → from target (in_range lo hi (e ∷ es)) ≡ in_range lo hi (from target (e ∷ es))) [
        | true ↦ λ inside.
            elim (cases_lt e.0 target) [
              | inl lt ↦ ap (from target) (in_range-here e es inside) ∙ from-below target e (in_range lo hi es) lt ∙ in_range-from e.0 target es up.1 ∙ ap (in_range lo hi) (sym (from-below target e es lt))
              | inr le ↦ ap (from target) (in_range-here e es inside) ∙ from-at target e (in_range lo hi es) le ∙ sym (in_range-here e es inside) ∙ ap (in_range lo hi) (sym (from-at target e es le))
            ]
        | false ↦ λ outside.
            elim (cases_lt e.0 target) [
              | inl lt ↦ ap (from target) (in_range-not e es outside) ∙ in_range-from e.0 target es up.1 ∙ ap (in_range lo hi) (sym (from-below target e es lt))
              | inr le ↦
                  ap (from target) (in_range-not e es outside) ∙ from-above e.0 target (in_range lo hi es) (RiseAbove-in_range e.0 es up.1) (omega (arith, le))
                  ∙ sym (in_range-not e es outside) ∙ ap (in_range lo hi) (sym (from-at target e es le))
            ]
      ] refl

  -- the entry at a place that is not in the range is passed over
  pub in_range-past : (list : SlotValues) (read : ℕ) → read < length list → is_within lo hi (value_at_place list read) ≡ false → in_range lo hi (drop (read + 1) list) ≡ in_range lo hi (drop read list)
  in_range-past list read lt outside = sym (ap (in_range lo hi) (drop-entry list read lt) ∙ in_range-not (id_at list read, value_at_place list read) (drop (read + 1) list) outside)

  module _ (id read : ℕ) (list : SlotValues) (stop : IsStop lo hi id read list) where
    -- the entries from the head on
    ahead_is : drop (read - 1) list ≡ (id, value_at_place list (read - 1)) ∷ drop read list
    ahead_is =
        let begun : 0 < read = stop.begun in
        let within : read ≤ length list = stop.within in
        let back : read - 1 + 1 ≡ read = omega arith in
        drop-entry list (read - 1) (omega arith) ∙ (λ k. (stop.is k, value_at_place list (read - 1)) ∷ drop (back k) list)

    -- the head, and then the unread in the range
    stop-split : in_range lo hi (drop (read - 1) list) ≡ (id, value_at_place list (read - 1)) ∷ in_range lo hi (drop read list)
    stop-split = ap (in_range lo hi) ahead_is ∙ in_range-here (id, value_at_place list (read - 1)) (drop read list) stop.inside

    -- behind the head ids are greater
    rises_behind : AreSorted list → RiseAbove id (drop read list)
    rises_behind sound = let up : RiseAbove 0 ((id, value_at_place list (read - 1)) ∷ drop read list) = subst (RiseAbove 0) ahead_is (RiseAbove-drop 0 (read - 1) list sound.rise) in up.1

  -- the head is the first id that is left
  pub head_is : (head : Option ℕ) (read : ℕ) (list : SlotValues) → IsHeadAt lo hi head read list → head ≡ first_id (in_range lo hi (ahead head read list))
  head_is None read list on = refl
  head_is (Some id) read list on = sym (ap first_id (stop-split id read list on))

  -- a head that is not below the target: nothing is passed over
  pub stays_left : (head : Option ℕ) (read target : ℕ) (list : SlotValues) → IsHeadAt lo hi head read list → is_head_below target head ≡ false
      → in_range lo hi (ahead head read list) ≡ from target (in_range lo hi (ahead head read list))
  stays_left None read target list on above = refl
  stays_left (Some id) read target list on above =
      let split = stop-split id read list on in
      split ∙ sym (from-at target (id, value_at_place list (read - 1)) (in_range lo hi (drop read list)) (ltb-false id target above)) ∙ ap (from target) (sym split)

  pub stays_unread : (head : Option ℕ) (read target : ℕ) (list : SlotValues) → AreSorted list → IsHeadAt lo hi head read list → is_head_below target head ≡ false
      → drop read list ≡ from target (drop read list)
  stays_unread None read target list sound on above = let none = drop_all read list (omega (arith, on)) in none ∙ ap (from target) (sym none)
  stays_unread (Some id) read target list sound on above =
      let le : target ≤ id = ltb-false id target above in
      sym (from-above id target (drop read list) (rises_behind id read list on sound) (omega arith))

  -- a head below the target: what is left begins behind it
  pub moves_left : (head : Option ℕ) (read target : ℕ) (list : SlotValues) → AreSorted list → IsHeadAt lo hi head read list → is_head_below target head ≡ true
      → in_range lo hi (from target (drop read list)) ≡ from target (in_range lo hi (ahead head read list))
  moves_left None read target list sound on below = absurd (true≢false (sym below))
  moves_left (Some id) read target list sound on below =
      sym (in_range-from id target (drop read list) (rises_behind id read list on sound))
      ∙ sym (from-below target (id, value_at_place list (read - 1)) (in_range lo hi (drop read list)) (ltb-true id target below))
      ∙ ap (from target) (sym (stop-split id read list on))

  pub moves_on : (head : Option ℕ) (read target : ℕ) (list : SlotValues) → IsHeadAt lo hi head read list → is_head_below target head ≡ true
      → IfSome (first_id (in_range lo hi (ahead head read list))) (λ id. target ≤ id) → ⊥
  moves_on None read target list on below above = absurd (true≢false (sym below))
  moves_on (Some id) read target list on below above =
      let le : target ≤ id = subst (λ (o : Option ℕ). IfSome o (λ id. target ≤ id)) (sym (head_is (Some id) read list on)) above in
      let lt : id < target = ltb-true id target below in
      omega arith

-- ---- the last ones of some entries

-- all of them are
pub end-all : (rest all : SlotValues) → rest ≡ all → IsEndOf rest all
end-all rest all e =
    let none : 0 ≡ length all - length rest = omega (arith, ap length e) in
    e ∙ ap (λ n. drop n all) none

-- ---- for those who walk through it

-- no head and nothing left, by cases
ended_left : (es : SlotValues) → None ≡ first_id es → es ≡ []
ended_left [] e = refl
ended_left (d ∷ es) e = cc

-- where there is no head, nothing is left
pub left-ended : (c : RangeCursor) (list : SlotValues) → None ≡ first_id (left c list) → left c list ≡ []
left-ended c list e = ended_left (left c list) e

-- no head and nothing unread, by cases
ended_unread : (lo hi : Option (List ℕ)) (head : Option ℕ) (read : ℕ) (list : SlotValues) → IsHeadAt lo hi head read list → None ≡ head → drop read list ≡ []
ended_unread lo hi None read list on e = drop_all read list (omega (arith, on))
ended_unread lo hi (Some id) read list on e = cc

-- where there is no head, nothing is unread
pub unread-ended : (c : RangeCursor) (runs : SlotRuns) → IsOn c runs → None ≡ first_id (left c (flat runs)) → unread c (flat runs) ≡ []
unread-ended c runs on e = ended_unread c.bounds.lo c.bounds.hi c.head c.place.passed (flat runs) on.head (e ∙ sym (head_is c.bounds.lo c.bounds.hi c.head c.place.passed (flat runs) on.head))

-- a head, and then the unread in the range, by cases
pub head_split : (lo hi : Option (List ℕ)) (head : Option ℕ) (read id : ℕ) (list : SlotValues) → IsHeadAt lo hi head read list → Some id ≡ head
    → in_range lo hi (ahead head read list) ≡ (id, value_at_place list (read - 1)) ∷ in_range lo hi (drop read list)
head_split lo hi None read id list on e = cc
head_split lo hi (Some at) read id list on e = let same : at ≡ id = cc in stop-split lo hi at read list on ∙ (λ k. (same k, value_at_place list (read - 1)) ∷ in_range lo hi (drop read list))

-- the head's entry, and then the unread in the range
pub left-split : (c : RangeCursor) (runs : SlotRuns) (id : ℕ) → IsOn c runs → Some id ≡ first_id (left c (flat runs))
    → left c (flat runs) ≡ (id, value_at_place (flat runs) (c.place.passed - 1)) ∷ in_range c.bounds.lo c.bounds.hi (unread c (flat runs))
left-split c runs id on e = head_split c.bounds.lo c.bounds.hi c.head c.place.passed id (flat runs) on.head (e ∙ sym (head_is c.bounds.lo c.bounds.hi c.head c.place.passed (flat runs) on.head))

-- what is left rises
pub RiseAbove-left : (c : RangeCursor) (list : SlotValues) → AreSorted list → RiseAbove 0 (left c list)
RiseAbove-left c list sound = RiseAbove-in_range c.bounds.lo c.bounds.hi 0 (ahead c.head c.place.passed list) (by c.head)
  where
    by : (head : Option ℕ) → RiseAbove 0 (ahead head c.place.passed list)
    by None = tt
    by (Some id) = RiseAbove-drop 0 (c.place.passed - 1) list sound.rise

-- behind the head's id stands the unread in the range
pub from-left : (c : RangeCursor) (runs : SlotRuns) (id : ℕ) → AreSorted (flat runs) → IsOn c runs → Some id ≡ first_id (left c (flat runs)) → from (id + 1) (left c (flat runs)) ≡ in_range c.bounds.lo c.bounds.hi (unread c (flat runs))
from-left c runs id sound on e =
    let list : SlotValues = flat runs in
    let split = left-split c runs id on e in
    let entry : ℕ × List ℕ = (id, value_at_place list (c.place.passed - 1)) in
    let rest : SlotValues = in_range c.bounds.lo c.bounds.hi (unread c list) in
    let up : RiseAbove 0 (entry ∷ rest) = subst (RiseAbove 0) split (RiseAbove-left c list sound) in
    ap (from (id + 1)) split ∙ from-below (id + 1) entry rest (omega arith) ∙ from-above id (id + 1) rest up.1 (omega arith)
