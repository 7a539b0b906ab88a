-- The values of a slot that lie in a range, as what documents score.
use Rattle.std.proofs.Common.{◌≡◌, ◌<◌, ◌≤◌, ◌^◌, ℕ, Bool, true, false, cond, if◌then◌else◌, ◌&&◌, nat_lt, List, [], ◌∷◌, length, Option, Some, None, unwrap_or, option_map, inl, inr, refl, sym, subst, ap, ◌∙◌, arith, rules, true≢false}
use Rattle.std.specs.List.{cons_option}
use Rattle.std.proofs.lemmas.Bool.{cases_eq}
use Rattle.sk_base.proofs.Tests.{first_so}
use Rattle.sk_base.specs.declared.doc_entry.SlotValue.{SlotValue}
use Rattle.sk_base.specs.declared.find.Scheme.{Scheme}
use Rattle.sk_base.specs.Documents.{value_in, has_value}
use Rattle.sk_base.specs.Numbers.{Docs}
use Rattle.sk_sorted.specs.Entries.{RiseAbove, LieBelow, AreSorted, found, from, first_id}
use Rattle.sk_sorted.proofs.EntryLaws.{RiseAbove-lower, found-here, found-other, found-below}
use Rattle.sk_sorted.specs.Runs.{flat}
use Rattle.sk_chunks.specs.Postings.{Postings, first_wdf}
use Rattle.sk_values.specs.SlotValues.{SlotValues}
use Rattle.sk_values.specs.RangeCursor.{in_range, left, IsOn}
use Rattle.sk_model.specs.Ranges.{is_from, is_to, is_within}
use Rattle.sk_model.specs.Documents.{Document}
use Rattle.sk_model.specs.Edits.{document_at}
use Rattle.sk_model.specs.Weights.{weigh_by}
use Rattle.sk_model.specs.Covers.{Covers}
use Rattle.sk_model.proofs.StaticLaws.{valued}
use Rattle.sk_index.specs.Indexed.{Indexed, pieces_in, slot_values}
use Rattle.sk_decay.specs.Heads.{IsHead}
use Rattle.sk_nodes.specs.declared.range_node.RangeNode.{RangeNode}
use Rattle.sk_nodes.specs.declared.node.Node.{Node, the_lemmas}
use Rattle.sk_nodes.specs.Leaves.{weighed, head_of, AtMost}
use Rattle.sk_nodes.specs.Shapes.{range, shape_of}
use Rattle.sk_nodes.specs.Left.{from_on}
use Rattle.sk_nodes.specs.Sound.{IsTop}
use Rattle.sk_nodes.specs.RangeNode.{unweighed, range_entries, range_rest, IsRangeOn}
use Rattle.sk_nodes.proofs.LeafLaws.{weighed-head, weighed-none, Passes-covers, Passes-from, head_of-Some, head_of-reached, RiseAbove-behind, from_on-none, covers_none}
use Rattle.sk_nodes.proofs.ListLaws.{found_cons, found_skip}

-- ---- entries without weight

first_unweighed : (es : SlotValues) → first_id (unweighed es) ≡ first_id es
first_unweighed [] = refl
first_unweighed (e ∷ es) = refl

first_zero : (es : SlotValues) → 0 ≡ first_wdf (unweighed es)
first_zero [] = refl
first_zero (e ∷ es) = refl

from_unweighed : (target : ℕ) (es : SlotValues) → unweighed (from target es) ≡ from target (unweighed es)
from_unweighed target [] = refl
from_unweighed target (e ∷ es) = by (nat_lt e.0 target) (from_unweighed target es)
  where
    by : (b : Bool) → unweighed (from target es) ≡ from target (unweighed es) → unweighed (if b then from target es else e ∷ es) ≡ (if b then from target (unweighed es) else (e.0, 0) ∷ unweighed es)
    by true more = more
    by false more = refl

rise_in : (lo hi : Option (List ℕ)) (low : ℕ) (es : SlotValues) → RiseAbove low es → RiseAbove low (unweighed (in_range lo hi es))
rise_in lo hi low [] up = tt
rise_in lo hi low (e ∷ es) up = by (is_within lo hi e.1) (rise_in lo hi e.0 es up.1)
  where
    by : (b : Bool) → RiseAbove e.0 (unweighed (in_range lo hi es)) → RiseAbove low (unweighed (cond b (e ∷ in_range lo hi es) (in_range lo hi es)))
    by true more = (up.0, more)
    by false more = RiseAbove-lower low e.0 (unweighed (in_range lo hi es)) (omega (arith, up.0)) more

below_in : (lo hi : Option (List ℕ)) (high : ℕ) (es : SlotValues) → LieBelow high es → LieBelow high (unweighed (in_range lo hi es))
below_in lo hi high [] lie = tt
below_in lo hi high (e ∷ es) lie = by (is_within lo hi e.1) (below_in lo hi high es lie.1)
  where
    by : (b : Bool) → LieBelow high (unweighed (in_range lo hi es)) → LieBelow high (unweighed (cond b (e ∷ in_range lo hi es) (in_range lo hi es)))
    by true more = (lie.0, more)
    by false more = more

pub sorted_in : (lo hi : Option (List ℕ)) (es : SlotValues) → AreSorted es → AreSorted (unweighed (in_range lo hi es))
sorted_in lo hi es sorted = record { rise = rise_in lo hi 0 es sorted.rise; small = below_in lo hi (2 ^ 32) es sorted.small }

below_from : (target high : ℕ) (es : Postings) → LieBelow high es → LieBelow high (from target es)
below_from target high [] lie = tt
below_from target high (e ∷ es) lie = by (nat_lt e.0 target) (below_from target high es lie.1)
  where
    by : (b : Bool) → LieBelow high (from target es) → LieBelow high (if b then from target es else e ∷ es)
    by true more = more
    by false more = lie

sorted_from : (target : ℕ) (es : Postings) → AreSorted es → AreSorted (from target es)
sorted_from target es sorted =
    let passes = Passes-from target 0 es in
    record {
      rise = RiseAbove-behind 0 passes.passed (from target es) (subst (λ (ps : Postings). RiseAbove 0 ps) passes.is sorted.rise);
      small = below_from target (2 ^ 32) es sorted.small;
    }

-- ---- the values of a slot, by rising ids

rise_slot : (slot low : ℕ) (docs : Docs) → RiseAbove low docs → RiseAbove low (slot_values slot docs)
rise_slot slot low [] up = tt
rise_slot slot low (one ∷ more) up = by (has_value slot one.1.values) (rise_slot slot one.0 more up.1)
  where
    by : (b : Bool) → RiseAbove one.0 (slot_values slot more) → RiseAbove low (cons_option (if b then Some (one.0, value_in slot one.1.values) else None) (slot_values slot more))
    by true rise = (up.0, rise)
    by false rise = RiseAbove-lower low one.0 (slot_values slot more) (omega (arith, up.0)) rise

below_slot : (slot high : ℕ) (docs : Docs) → LieBelow high docs → LieBelow high (slot_values slot docs)
below_slot slot high [] lie = tt
below_slot slot high (one ∷ more) lie = by (has_value slot one.1.values) (below_slot slot high more lie.1)
  where
    by : (b : Bool) → LieBelow high (slot_values slot more) → LieBelow high (cons_option (if b then Some (one.0, value_in slot one.1.values) else None) (slot_values slot more))
    by true below = (lie.0, below)
    by false below = below

sorted_slot : (slot : ℕ) (docs : Docs) → AreSorted docs → AreSorted (slot_values slot docs)
sorted_slot slot docs sorted = record { rise = rise_slot slot 0 docs sorted.rise; small = below_slot slot (2 ^ 32) docs sorted.small }

-- ---- documents whose value lies in the range

valued_within : (lo hi : Option (List ℕ)) (slot : ℕ) (values : List SlotValue) → is_within lo hi (value_in slot values) ≡ true → has_value slot values ≡ true
valued_within lo hi slot values e = valued slot values (first_so (nat_lt 0 (length (value_in slot values))) (is_from lo (value_in slot values) && is_to hi (value_in slot values)) e)

abbrev pub range_at : Option (List ℕ) → Option (List ℕ) → ℕ → Option Document → Option ℕ
range_at lo hi slot None = None
range_at lo hi slot (Some d) = if is_within lo hi (value_in slot d.values) then Some 0 else None

one_in : (lo hi : Option (List ℕ)) (slot : ℕ) (one : ℕ × Document) (es : SlotValues)
    → unweighed (in_range lo hi (cons_option (if has_value slot one.1.values then Some (one.0, value_in slot one.1.values) else None) es))
    ≡ cons_option (if is_within lo hi (value_in slot one.1.values) then Some (one.0, 0) else None) (unweighed (in_range lo hi es))
one_in lo hi slot one es = by (has_value slot one.1.values) (is_within lo hi (value_in slot one.1.values)) refl refl
  where
    v : List ℕ
    v = value_in slot one.1.values

    cut : (w : Bool) → unweighed (cond w ((one.0, v) ∷ in_range lo hi es) (in_range lo hi es)) ≡ cons_option (if w then Some (one.0, 0) else None) (unweighed (in_range lo hi es))
    cut true = refl
    cut false = refl

    by : (b w : Bool) → has_value slot one.1.values ≡ b → is_within lo hi v ≡ w
        → unweighed (in_range lo hi (cons_option (if b then Some (one.0, v) else None) es)) ≡ cons_option (if is_within lo hi v then Some (one.0, 0) else None) (unweighed (in_range lo hi es))
    by true w e f = cut (is_within lo hi v)
    by false true e f = absurd (true≢false (sym (valued_within lo hi slot one.1.values f) ∙ e))
    by false false e f = sym (ap (λ (c : Bool). cons_option (if c then Some (one.0, 0) else None) (unweighed (in_range lo hi es))) f)

pub range_found : (lo hi : Option (List ℕ)) (slot low id : ℕ) (docs : Docs) → RiseAbove low docs → found id (unweighed (in_range lo hi (slot_values slot docs))) ≡ range_at lo hi slot (document_at id docs)
range_found lo hi slot low id [] up = refl
range_found lo hi slot low id (one ∷ more) up =
    ap (found id) (one_in lo hi slot one (slot_values slot more))
    ∙ elim (cases_eq one.0 id) as (λ _. found id (cons_option (if is_within lo hi (value_in slot one.1.values) then Some (one.0, 0) else None) (unweighed (in_range lo hi (slot_values slot more)))) ≡ range_at lo hi slot (document_at id (one ∷ more))) [
      | inl same ↦
          found_cons id one 0 (is_within lo hi (value_in slot one.1.values)) (unweighed (in_range lo hi (slot_values slot more)))
          (range_found lo hi slot one.0 id more up.1 ∙ ap (range_at lo hi slot) (found-below one.0 id more (omega (arith, same)) up.1)) same
          ∙ sym (ap (range_at lo hi slot) (found-here id one more same))
      | inr other ↦
          found_skip id one 0 (is_within lo hi (value_in slot one.1.values)) (unweighed (in_range lo hi (slot_values slot more))) other
          ∙ range_found lo hi slot one.0 id more up.1 ∙ sym (ap (range_at lo hi slot) (found-other id one more other))
    ]

pub no_weight : (w : ℕ) → weigh_by 0 Scheme.Bool w ≡ 0
no_weight w = omega arith

pub range_live : (lo hi : Option (List ℕ)) (slot id : ℕ) (docs : Docs) → AreSorted docs → document_at id docs ≡ None → weighed 0 Scheme.Bool (unweighed (in_range lo hi (slot_values slot docs))) id ≡ None
range_live lo hi slot id docs sorted none =
    weighed-none 0 Scheme.Bool id (unweighed (in_range lo hi (slot_values slot docs))) (range_found lo hi slot 0 id docs sorted.rise ∙ ap (range_at lo hi slot) none)

-- ---- a range node

zero_bound : (es : Postings) → AtMost 0 (weighed 0 Scheme.Bool es)
zero_bound es id = by (found id es)
  where
    by : (o : Option ℕ) → unwrap_or (option_map (weigh_by 0 Scheme.Bool) o) 0 ≤ 0
    by None = omega arith
    by (Some w) = omega (arith, no_weight w)

pub range_top : (i : Indexed) (r : RangeNode) (head : ℕ) → IsHead head 0 (range_rest i r) → IsTop i (record { head = head; weight = 0; greatest = 0 }) (range r)
range_top i r head is = record {
  head = is;
  bound = zero_bound (range_entries i r);
  summed = λ lt. omega arith;
  closed = λ end. refl;
}

pub range_head : (i : Indexed) (r : RangeNode) (id : ℕ) → IsRangeOn i r → Some id ≡ first_id (left r.cursor (slot_values r.slot i.live.documents)) → IsHead id 0 (range_rest i r)
range_head i r id on e =
    let es = left r.cursor (slot_values r.slot i.live.documents) in
    subst (λ w. IsHead id w (range_rest i r)) (no_weight 0) (weighed-head 0 Scheme.Bool id 0 (range_entries i r) on.sorted (e ∙ sym (first_unweighed es)) (first_zero es))

pub range_first : (i : Indexed) (r : RangeNode) (id : ℕ) → Some id ≡ first_id (left r.cursor (slot_values r.slot i.live.documents)) → id ≡ head_of (range_entries i r)
range_first i r id e = head_of-Some id (range_entries i r) (e ∙ sym (first_unweighed (left r.cursor (slot_values r.slot i.live.documents))))

-- the cursor moved on
module _ (i : Indexed) (old new : RangeNode) (target : ℕ) (slot : new.slot ≡ old.slot) (on : IsRangeOn i old) (moved : IsOn new.cursor (pieces_in i old.slot))
    (e : left new.cursor (slot_values old.slot i.live.documents) ≡ from target (left old.cursor (slot_values old.slot i.live.documents))) where
  entries : range_entries i new ≡ from target (range_entries i old)
  entries = ap (λ s. unweighed (left new.cursor (slot_values s i.live.documents))) slot ∙ ap unweighed e ∙ from_unweighed target (left old.cursor (slot_values old.slot i.live.documents))

  pub range_covers : (need : ℕ) → Covers (from_on target (range_rest i old)) (range_rest i new) need
  range_covers need =
      subst (λ (es : Postings). Covers (from_on target (range_rest i old)) (weighed 0 Scheme.Bool es) need) (sym entries)
      (Passes-covers 0 Scheme.Bool 0 need target (range_entries i old) (from target (range_entries i old)) (λ w lt. absurd (omega (arith, lt))) on.sorted (Passes-from target 0 (range_entries i old)))

  pub range_moved : IsRangeOn i new
  range_moved = record {
    on = subst (λ s. IsOn new.cursor (pieces_in i s)) (sym slot) moved;
    values = subst (λ s. flat (pieces_in i s) ≡ slot_values s i.live.documents) (sym slot) on.values;
    sorted = subst (λ (es : Postings). AreSorted es) (sym entries) (sorted_from target (range_entries i old) on.sorted);
    live = λ id none. covers_none (from_on target (range_rest i old) id) (range_rest i new id) 0 (from_on-none target (range_rest i old) id (on.live id none)) (range_covers 0 id);
  }

  pub range_reached : target < 2 ^ 32 → target ≤ head_of (range_entries i new)
  range_reached lt =
      subst (λ (es : Postings). target ≤ head_of es) (sym entries) (head_of-reached target (from target (range_entries i old)) lt (Passes-from target 0 (range_entries i old)).reached)

pub range_opened : (i : Indexed) (r : RangeNode) (lo hi : Option (List ℕ)) → IsOn r.cursor (pieces_in i r.slot) → flat (pieces_in i r.slot) ≡ slot_values r.slot i.live.documents → left r.cursor (slot_values r.slot i.live.documents) ≡ in_range lo hi (slot_values r.slot i.live.documents)
    → AreSorted i.live.documents → IsRangeOn i r
range_opened i r lo hi on values e documents = record {
  on = on;
  values = values;
  sorted = subst (λ (es : SlotValues). AreSorted (unweighed es)) (sym e) (sorted_in lo hi (slot_values r.slot i.live.documents) (sorted_slot r.slot i.live.documents documents));
  live = λ id none. ap (λ (es : SlotValues). weighed 0 Scheme.Bool (unweighed es) id) e ∙ range_live lo hi r.slot id i.live.documents documents none;
}

pub shape_of-Range : (r : RangeNode) → shape_of (Node.Range r) ≡ range r
shape_of-Range r = search (rules, the_lemmas)

pub range_shape : (node : Node) (r m : RangeNode) → node ≡ Node.Range r → m ≡ r → shape_of node ≡ range m
range_shape node r m e f = ap shape_of e ∙ shape_of-Range r ∙ (λ i. range (sym f i))
