-- A range that passes over values behind the last one wanted: it stands on its list still, and what it passed over is the first of what it gave.
use Rattle.std.proofs.Common.{◌≡◌, ◌<◌, ◌≤◌, ◌+◌, ◌-◌, ℕ, zero, suc, Bool, true, false, cond, if◌then◌else◌, List, [], ◌∷◌, ◌++◌, drop, filter, Option, Some, None, IfSome, option_map, inl, inr, refl, sym, subst, ap, ◌∙◌, arith}
use Rattle.std.specs.List.{AllByRecursion, cons_option, filter_map}
use Rattle.std.proofs.lemmas.Bool.{cases_eq, cases_lt}
use Rattle.sk_base.specs.declared.find.Scheme.{Scheme}
use Rattle.sk_base.specs.declared.rank.SortKey.{SortKey}
use Rattle.sk_base.specs.Documents.{value_in, has_value}
use Rattle.sk_base.specs.Numbers.{Docs}
use Rattle.sk_sorted.specs.Entries.{RiseAbove, AreSorted, from}
use Rattle.sk_sorted.proofs.EntryLaws.{found-here, found-other, found-below, from-below, from-above}
use Rattle.sk_chunks.specs.Postings.{Postings}
use Rattle.sk_values.specs.SlotValues.{SlotValues}
use Rattle.sk_values.specs.RangeCursor.{ahead, left, IsOn}
use Rattle.sk_values.specs.Behind.{SkipsOn}
use Rattle.sk_model.specs.Ranges.{is_within}
use Rattle.sk_model.specs.Edits.{document_at}
use Rattle.sk_model.specs.Weights.{weigh_by}
use Rattle.sk_index.specs.Indexed.{Indexed, pieces_in, slot_values, slot_value}
use Rattle.sk_nodes.specs.declared.range_node.RangeNode.{RangeNode}
use Rattle.sk_nodes.specs.declared.top.Top.{Top}
use Rattle.sk_nodes.specs.Shapes.{Shape, range}
use Rattle.sk_nodes.specs.RangeSkips.{RangeSkips, NodeSkips}
use Rattle.sk_nodes.specs.Leaves.{weighed}
use Rattle.sk_nodes.specs.RangeNode.{unweighed, range_entries, range_rest, IsRangeOn}
use Rattle.sk_nodes.proofs.RangeLaws.{no_weight, range_moved}

-- ---- from the first entry on that is left

-- the id behind the last entry of some
abbrev next_id : ℕ → SlotValues → ℕ
next_id id [] = id + 1
next_id id (e ∷ es) = next_id e.0 es

next_above : (id : ℕ) (es ys : SlotValues) → RiseAbove id (es ++ ys) → id < next_id id es
next_above id [] ys up = omega arith
next_above id (e ∷ es) ys up = let more = next_above e.0 es ys up.1 in omega (arith, more, up.0)

from_next : (id : ℕ) (es ys : SlotValues) → RiseAbove id (es ++ ys) → from (next_id id es) (es ++ ys) ≡ ys
from_next id [] ys up = from-above id (id + 1) ys up (omega arith)
from_next id (e ∷ es) ys up = from-below (next_id e.0 es) e (es ++ ys) (next_above e.0 es ys up.1) ∙ from_next e.0 es ys up.1

rise_unweighed : (low : ℕ) (es : SlotValues) → RiseAbove low (unweighed es) → RiseAbove low es
rise_unweighed low [] up = tt
rise_unweighed low (e ∷ es) up = (up.0, rise_unweighed e.0 es up.1)

module _ (i : Indexed) (old new : RangeNode) (reverse : Bool) (last : List ℕ) (count : ℕ) (slot : new.slot ≡ old.slot) (on : IsRangeOn i old) (moved : IsOn new.cursor (pieces_in i old.slot))
    (skips : SkipsOn reverse last count (left old.cursor (slot_values old.slot i.live.documents)) (left new.cursor (slot_values old.slot i.live.documents))) where
  abbrev all : SlotValues
  all = left old.cursor (slot_values old.slot i.live.documents)

  abbrev behind : SlotValues
  behind = left new.cursor (slot_values old.slot i.live.documents)

  split : all ≡ skips.first ∷ (skips.skips.passed ++ behind)
  split = skips.is ∙ ap (λ (es : SlotValues). skips.first ∷ es) skips.skips.is

  up : RiseAbove 0 (skips.first ∷ (skips.skips.passed ++ behind))
  up = subst (λ (es : SlotValues). RiseAbove 0 es) split (rise_unweighed 0 all on.sorted.rise)

  pub range_skipped : IsRangeOn i new
  range_skipped =
      let target : ℕ = next_id skips.first.0 skips.skips.passed in
      range_moved i old new target slot on moved
      (sym (ap (from target) split ∙ from-below target skips.first (skips.skips.passed ++ behind) (next_above skips.first.0 skips.skips.passed behind up.1) ∙ from_next skips.first.0 skips.skips.passed behind up.1))

-- ---- what it gives, as a list

abbrev given : SlotValues → ℕ → Option ℕ
given es id = weighed 0 Scheme.Bool (unweighed es) id

abbrev listed : (ℕ → Option ℕ) → Docs → Postings
listed f docs = filter_map (λ one. option_map (λ w. (one.0, w)) (f one.0)) docs

-- what gives the same behind an id leaves the same
same_behind : (f g : ℕ → Option ℕ) (low : ℕ) (docs : Docs) → RiseAbove low docs → ((id : ℕ) → low < id → f id ≡ g id) → listed f docs ≡ listed g docs
same_behind f g low [] rise same = refl
same_behind f g low (d ∷ docs) rise same =
    λ k. cons_option (option_map (λ w. (d.0, w)) (same d.0 rise.0 k)) (same_behind f g d.0 docs rise.1 (λ id lt. same id (omega (arith, lt, rise.0))) k)

none_listed : (docs : Docs) → listed (given []) docs ≡ []
none_listed [] = refl
none_listed (d ∷ docs) = none_listed docs

rise_weighed : (low : ℕ) (es : SlotValues) → RiseAbove low es → RiseAbove low (unweighed es)
rise_weighed low [] up = tt
rise_weighed low (e ∷ es) up = (up.0, rise_weighed e.0 es up.1)

given_here : (e : ℕ × List ℕ) (es : SlotValues) → given (e ∷ es) e.0 ≡ Some 0
given_here e es = ap (option_map (weigh_by 0 Scheme.Bool)) (found-here e.0 (e.0, 0) (unweighed es) refl) ∙ ap Some (no_weight 0)

given_other : (id : ℕ) (e : ℕ × List ℕ) (es : SlotValues) → e.0 < id → given (e ∷ es) id ≡ given es id
given_other id e es lt = ap (option_map (weigh_by 0 Scheme.Bool)) (found-other id (e.0, 0) (unweighed es) (λ same. absurd (omega (arith, lt, same))))

given_below : (low id : ℕ) (es : SlotValues) → RiseAbove low es → id ≤ low → given es id ≡ None
given_below low id es up le = ap (option_map (weigh_by 0 Scheme.Bool)) (found-below low id (unweighed es) le (rise_weighed low es up))

some_is_none : (o : Option ℕ) → o ≡ Some 0 → o ≡ None → ⊥
some_is_none o e f = cc

all_listed : (low : ℕ) (es : SlotValues) (docs : Docs) → RiseAbove low docs → RiseAbove low es → ((id : ℕ) → low < id → document_at id docs ≡ None → given es id ≡ None) → listed (given es) docs ≡ unweighed es
all_listed low [] docs up rise live = none_listed docs
all_listed low (e ∷ es) [] up rise live = absurd (some_is_none (given (e ∷ es) e.0) (given_here e es) (live e.0 rise.0 refl))
all_listed low (e ∷ es) (d ∷ docs) up rise live =
    elim (cases_eq d.0 e.0) as (λ _. listed (given (e ∷ es)) (d ∷ docs) ≡ unweighed (e ∷ es)) [
      | inl same ↦
          ap (λ (o : Option ℕ). cons_option (option_map (λ w. (d.0, w)) o) (listed (given (e ∷ es)) docs)) (ap (given (e ∷ es)) same ∙ given_here e es)
          ∙ (λ k. (same k, 0) ∷ listed (given (e ∷ es)) docs)
          ∙ ap (λ (ps : Postings). (e.0, 0) ∷ ps)
          (same_behind (given (e ∷ es)) (given es) d.0 docs up.1 (λ id lt. given_other id e es (omega (arith, lt, same)))
          ∙ all_listed d.0 es docs up.1 (subst (λ n. RiseAbove n es) (sym same) rise.1)
          (λ id lt none. sym (given_other id e es (omega (arith, lt, same))) ∙ live id (omega (arith, lt, up.0)) (found-other id d docs (λ at. absurd (omega (arith, at, lt))) ∙ none)))
      | inr other ↦
          elim (cases_lt d.0 e.0) as (λ _. listed (given (e ∷ es)) (d ∷ docs) ≡ unweighed (e ∷ es)) [
            | inl before ↦
                ap (λ (o : Option ℕ). cons_option (option_map (λ w. (d.0, w)) o) (listed (given (e ∷ es)) docs)) (given_below d.0 d.0 (e ∷ es) (before, rise.1) (omega arith))
                ∙ all_listed d.0 (e ∷ es) docs up.1 (before, rise.1) (λ id lt none. live id (omega (arith, lt, up.0)) (found-other id d docs (λ at. absurd (omega (arith, at, lt))) ∙ none))
            | inr behind ↦
                absurd (some_is_none (given (e ∷ es) e.0) (given_here e es) (live e.0 rise.0 (found-below e.0 e.0 (d ∷ docs) (omega arith) (omega (arith, behind, other), up.1))))
          ]
    ]

pub range_listed : (i : Indexed) (r : RangeNode) → IsRangeOn i r → AreSorted i.live.documents → listed (range_rest i r) i.live.documents ≡ range_entries i r
range_listed i r on documents = all_listed 0 (left r.cursor (slot_values r.slot i.live.documents)) i.live.documents documents.rise (rise_unweighed 0 (left r.cursor (slot_values r.slot i.live.documents)) on.sorted.rise) (λ id _ none. on.live id none)

-- ---- the values there

abbrev HasValue : ℕ → Docs → ℕ → ℕ × List ℕ → Type 0
HasValue slot docs low e = (low < e.0) × (slot_value slot (document_at e.0 docs) ≡ e.1)

weaker : {X : Type 0} (P Q : X → Type 0) (xs : List X) → ((x : X) → P x → Q x) → AllByRecursion P xs → AllByRecursion Q xs
weaker P Q [] f h = tt
weaker P Q (x ∷ xs) f h = (f x h.0, weaker P Q xs f h.1)

values_there : (slot low : ℕ) (docs : Docs) → RiseAbove low docs → AllByRecursion (HasValue slot docs low) (slot_values slot docs)
values_there slot low [] up = tt
values_there slot low (d ∷ docs) up =
    by (has_value slot d.1.values)
    (weaker (HasValue slot docs d.0) (HasValue slot (d ∷ docs) low) (slot_values slot docs)
    (λ e h. (omega (arith, h.0, up.0), ap (slot_value slot) (found-other e.0 d docs (λ at. absurd (omega (arith, at, h.0)))) ∙ h.1)) (values_there slot d.0 docs up.1))
  where
    by : (b : Bool) → AllByRecursion (HasValue slot (d ∷ docs) low) (slot_values slot docs)
        → AllByRecursion (HasValue slot (d ∷ docs) low) (cons_option (if b then Some (d.0, value_in slot d.1.values) else None) (slot_values slot docs))
    by true more = ((up.0, ap (slot_value slot) (found-here d.0 d docs refl)), more)
    by false more = more

all_drop : {X : Type 0} (P : X → Type 0) (n : ℕ) (xs : List X) → AllByRecursion P xs → AllByRecursion P (drop n xs)
all_drop P zero xs h = h
all_drop P (suc n) [] h = tt
all_drop P (suc n) (x ∷ xs) h = all_drop P n xs h.1

all_filter : {X : Type 0} (P : X → Type 0) (p : X → Bool) (xs : List X) → AllByRecursion P xs → AllByRecursion P (filter p xs)
all_filter P p [] h = tt
all_filter P p (x ∷ xs) h = by (p x) (all_filter P p xs h.1)
  where
    by : (b : Bool) → AllByRecursion P (filter p xs) → AllByRecursion P (cond b (x ∷ filter p xs) (filter p xs))
    by true more = (h.0, more)
    by false more = more

pub left_values : (i : Indexed) (r : RangeNode) → AreSorted i.live.documents → AllByRecursion (λ e. slot_value r.slot (document_at e.0 i.live.documents) ≡ e.1) (left r.cursor (slot_values r.slot i.live.documents))
left_values i r documents =
    all_filter (λ (e : ℕ × List ℕ). slot_value r.slot (document_at e.0 i.live.documents) ≡ e.1) (λ (e : ℕ × List ℕ). is_within r.cursor.bounds.lo r.cursor.bounds.hi e.1) (ahead r.cursor.head r.cursor.place.passed es) (by r.cursor.head)
  where
    es : SlotValues
    es = slot_values r.slot i.live.documents

    there : AllByRecursion (λ (e : ℕ × List ℕ). slot_value r.slot (document_at e.0 i.live.documents) ≡ e.1) es
    there = weaker (HasValue r.slot i.live.documents 0) (λ (e : ℕ × List ℕ). slot_value r.slot (document_at e.0 i.live.documents) ≡ e.1) es (λ e h. h.1) (values_there r.slot 0 i.live.documents documents.rise)

    by : (head : Option ℕ) → AllByRecursion (λ (e : ℕ × List ℕ). slot_value r.slot (document_at e.0 i.live.documents) ≡ e.1) (ahead head r.cursor.place.passed es)
    by None = tt
    by (Some id) = all_drop (λ (e : ℕ × List ℕ). slot_value r.slot (document_at e.0 i.live.documents) ≡ e.1) (r.cursor.place.passed - 1) es there

-- ---- a node that is a range

pub node_skips : (i : Indexed) (key : SortKey) (last : List ℕ) (o : Option ℕ) (was is : RangeNode) (old new : Shape) (t : Top) → old ≡ range was → new ≡ range is → IfSome o (λ count. RangeSkips i key last count was is t)
    → IfSome o (λ count. NodeSkips i key last count old new t)
node_skips i key last None was is old new t e f h = h
node_skips i key last (Some count) was is old new t e f h = record { was = was; is = is; old_is = e; new_is = f; skips = h }
