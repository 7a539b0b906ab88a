-- What an edit of one slot's list, and of several, is to the lists of all slots.
use Rattle.std.proofs.Common.{◌≡◌, ◌≢◌, ℕ, zero, suc, ◌+◌, ◌<◌, ◌==◌, Bool, true, false, cond, if◌then◌else◌, ◌||◌, List, [], ◌∷◌, ◌++◌, length, get_or, take, drop, set, position, nat_lt, ◌≤◌, None, Some, inl, inr, refl, sym, ap, subst, ◌∙◌, arith}
use mathlib.Core.Bool.{true≢false}
use Rattle.std.proofs.lemmas.Bool.Decides.{nat_tests}
use Rattle.std.specs.List.{insert}
use Rattle.std.specs.List.Sorted.{IsPartitionedBy, IsPartitionPoint}
use Rattle.std.proofs.lemmas.Bool.{cases_eq, ltb-true, ltb-false}
use Rattle.std.proofs.lemmas.List.{take_all, take-append-le, get_or-set_same, get_or-set_other, get_or_default, length-set}
use Rattle.std.proofs.lemmas.List.Quantifiers.{position-Some}
use Rattle.std.specs.List.{position_or_len}
use Rattle.std.proofs.lemmas.List.Sums.{fails_before_first}
use Rattle.sk_base.specs.declared.doc_entry.SlotValue.{SlotValue}
use Rattle.sk_base.specs.Documents.{AreValues, has_value, value_in}
use Rattle.sk_sorted.specs.Entries.{put, without}
use Rattle.sk_sorted.specs.Runs.{flat}
use Rattle.sk_values.specs.SlotValues.{SlotValues, SlotRuns}
use Rattle.sk_slots.specs.declared.slot_lists.SlotEntry.{SlotEntry}
use Rattle.sk_slots.specs.Slotted.{slot_pieces, slot_list, Sets, SetsAll, ClearsAll, RiseFrom}

-- by whether a test holds
by_test : {A : Type 0} (b : Bool) (x y z : A) → (b ≡ true → z ≡ x) → (b ≡ false → z ≡ y) → z ≡ (if b then x else y)
by_test true x y z f g = f refl
by_test false x y z f g = g refl

-- no slot of these is this one
abbrev pub NoSlot : ℕ → List SlotEntry → Type 0
NoSlot slot slots = (k : ℕ) (d : SlotEntry) → k < length slots → ((get_or slots k d).slot == slot) ≡ false

-- the first of these that is this slot stands at the place
pub record IsFirstAt (slot : ℕ) (slots : List SlotEntry) (at : ℕ) : Type 0 where
  pub there : at < length slots
  pub is : (d : SlotEntry) → ((get_or slots at d).slot == slot) ≡ true
  pub before : (k : ℕ) (d : SlotEntry) → k < at → ((get_or slots k d).slot == slot) ≡ false

first_tail : (slot : ℕ) (one : SlotEntry) (more : List SlotEntry) (at : ℕ) → IsFirstAt slot (one ∷ more) (suc at) → IsFirstAt slot more at
first_tail slot one more at h = record { there = omega (arith, h.there); is = h.is; before = λ k d lt. h.before (suc k) d (omega arith) }

pub slot_list-none : (slot : ℕ) (slots : List SlotEntry) → NoSlot slot slots → slot_list slot slots ≡ []
slot_list-none slot [] h = refl
slot_list-none slot (one ∷ more) h = ap (λ b. if b then flat one.list else slot_list slot more) (h 0 one (omega arith)) ∙ slot_list-none slot more (λ k d lt. h (suc k) d (omega arith))

-- what a search says of the first
pub first_from : (slot : ℕ) (slots : List SlotEntry) (at : ℕ) → position (λ (one : SlotEntry). one.slot == slot) slots ≡ Some at → IsFirstAt slot slots at
first_from slot slots at e = record {
  there = (position-Some (λ (one : SlotEntry). one.slot == slot) slots at nobody e).0;
  is = λ d. (position-Some (λ (one : SlotEntry). one.slot == slot) slots at d e).1;
  before = λ k d lt. (position-Some (λ (one : SlotEntry). one.slot == slot) slots at d e).2 k lt;
}
  where
    nobody : SlotEntry
    nobody = record { slot = 0; list = [] }

pub none_from : (slot : ℕ) (slots : List SlotEntry) → position (λ (one : SlotEntry). one.slot == slot) slots ≡ None → NoSlot slot slots
none_from slot slots e k d lt = by (nat_lt (position_or_len is_slot slots) (length slots)) refl e
  where
    is_slot : SlotEntry → Bool
    is_slot one = one.slot == slot

    by : (b : Bool) → nat_lt (position_or_len is_slot slots) (length slots) ≡ b → cond b (Some (position_or_len is_slot slots)) None ≡ None → (get_or slots k d).slot == slot ≡ false
    by true h e = cc
    by false h e =
        let past : length slots ≤ position_or_len is_slot slots = grind (arith, nat_tests) in
        fails_before_first is_slot slots k d (omega arith)

same_slot : (m n s : ℕ) → (m == n) ≡ true → (m == s) ≡ (n == s)
same_slot m n s h = let e : m ≡ n = grind (arith, nat_tests) in ap (λ k. k == s) e

other_slot : (m n s : ℕ) → (m == n) ≡ false → (m == s) ≡ true → (n == s) ≡ false
other_slot m n s h g = grind (arith, nat_tests)

-- the list of a slot is changed
pub slot_list-set : (g : SlotValues → SlotValues) (slot : ℕ) (slots : List SlotEntry) (at : ℕ) (d : SlotEntry) (list : SlotRuns) → flat list ≡ g (flat (get_or slots at d).list) → IsFirstAt slot slots at → (s : ℕ)
    → slot_list s (set slots at (record { slot = (get_or slots at d).slot; list = list })) ≡ (if slot == s then g (slot_list s slots) else slot_list s slots)
slot_list-set g slot [] at d list e h s = absurd (omega (arith, h.there))
slot_list-set g slot (one ∷ more) zero d list e h s =
    ap (λ (l : SlotValues). if one.slot == s then l else slot_list s more) e
    ∙ ap (λ b. if b then g (flat one.list) else slot_list s more) (same_slot one.slot slot s (h.is one))
    ∙ split (slot == s)
    ∙ sym (ap (λ b. if slot == s then g (if b then flat one.list else slot_list s more) else (if b then flat one.list else slot_list s more)) (same_slot one.slot slot s (h.is one)))
  where
    split : (b : Bool) → (if b then g (flat one.list) else slot_list s more) ≡ (if b then g (if b then flat one.list else slot_list s more) else (if b then flat one.list else slot_list s more))
    split true = refl
    split false = refl
slot_list-set g slot (one ∷ more) (suc at) d list e h s =
    ap (λ (l : SlotValues). if one.slot == s then flat one.list else l) (slot_list-set g slot more at d list e (first_tail slot one more at h) s)
    ∙ split (one.slot == s) (slot == s) (other_slot one.slot slot s (h.before 0 one (omega arith)))
  where
    split : (b c : Bool) → (b ≡ true → c ≡ false)
        → (if b then flat one.list else (if c then g (slot_list s more) else slot_list s more)) ≡ (if c then g (if b then flat one.list else slot_list s more) else (if b then flat one.list else slot_list s more))
    split true true once = absurd (true≢false (once refl))
    split true false once = refl
    split false true once = refl
    split false false once = refl

-- the same where the entry is read
pub set_at : (g : SlotValues → SlotValues) (slot : ℕ) (slots : List SlotEntry) (at : ℕ) (x : SlotEntry) (list : SlotRuns) → position (λ (one : SlotEntry). one.slot == slot) slots ≡ Some at
    → x ≡ get_or slots at x → flat list ≡ g (flat x.list) → (s : ℕ)
    → slot_list s (set slots at (record { slot = x.slot; list = list })) ≡ (if slot == s then g (slot_list s slots) else slot_list s slots)
set_at g slot slots at x list e is new s =
    ap (λ n. slot_list s (set slots at (record { slot = n; list = list }))) (ap (λ (y : SlotEntry). y.slot) is)
    ∙ slot_list-set g slot slots at x list (new ∙ ap (λ (y : SlotEntry). g (flat y.list)) is) (first_from slot slots at e) s

-- the pieces of a list are those of its slot
pub slot_pieces-there : (slot : ℕ) (slots : List SlotEntry) (at : ℕ) (d : SlotEntry) → IsFirstAt slot slots at → slot_pieces slot slots ≡ (get_or slots at d).list
slot_pieces-there slot [] at d h = absurd (omega (arith, h.there))
slot_pieces-there slot (one ∷ more) zero d h = ap (λ b. if b then one.list else slot_pieces slot more) (h.is one)
slot_pieces-there slot (one ∷ more) (suc at) d h = ap (λ b. if b then one.list else slot_pieces slot more) (h.before 0 one (omega arith)) ∙ slot_pieces-there slot more at d (first_tail slot one more at h)

pub slot_pieces-none : (slot : ℕ) (slots : List SlotEntry) → NoSlot slot slots → slot_pieces slot slots ≡ []
slot_pieces-none slot [] h = refl
slot_pieces-none slot (one ∷ more) h = ap (λ b. if b then one.list else slot_pieces slot more) (h 0 one (omega arith)) ∙ slot_pieces-none slot more (λ k d lt. h (suc k) d (omega arith))

pub flat-slot_pieces : (slot : ℕ) (slots : List SlotEntry) → flat (slot_pieces slot slots) ≡ slot_list slot slots
flat-slot_pieces slot [] = refl
flat-slot_pieces slot (one ∷ more) = by (one.slot == slot) (flat-slot_pieces slot more)
  where
    by : (b : Bool) → flat (slot_pieces slot more) ≡ slot_list slot more → flat (if b then one.list else slot_pieces slot more) ≡ (if b then flat one.list else slot_list slot more)
    by true rest = refl
    by false rest = rest

pub pieces_at : (slot : ℕ) (slots : List SlotEntry) (at : ℕ) (x : SlotEntry) → position (λ (one : SlotEntry). one.slot == slot) slots ≡ Some at → x ≡ get_or slots at x → x.list ≡ slot_pieces slot slots
pieces_at slot slots at x e is = ap (λ (y : SlotEntry). y.list) is ∙ sym (slot_pieces-there slot slots at x (first_from slot slots at e))

-- ---- the order of the slots

RiseFrom-lower : (low high : ℕ) (slots : List SlotEntry) → low ≤ high → RiseFrom high slots → RiseFrom low slots
RiseFrom-lower low high [] le up = tt
RiseFrom-lower low high (one ∷ more) le up = (omega (arith, le, up.0), up.1)

RiseFrom-set : (low : ℕ) (slots : List SlotEntry) (at : ℕ) (d : SlotEntry) (list : SlotRuns) → at < length slots → RiseFrom low slots → RiseFrom low (set slots at (record { slot = (get_or slots at d).slot; list = list }))
RiseFrom-set low [] at d list lt up = absurd (omega (arith, lt))
RiseFrom-set low (one ∷ more) zero d list lt up = up
RiseFrom-set low (one ∷ more) (suc at) d list lt up = (up.0, RiseFrom-set (one.slot + 1) more at d list (omega (arith, lt)) up.1)

-- the same where the entry is read
pub rise_at : (slots : List SlotEntry) (at : ℕ) (x : SlotEntry) (list : SlotRuns) → at < length slots → x ≡ get_or slots at x → RiseFrom 0 slots → RiseFrom 0 (set slots at (record { slot = x.slot; list = list }))
rise_at slots at x list lt is up =
    subst (λ n. RiseFrom 0 (set slots at (record { slot = n; list = list }))) (sym (ap (λ (y : SlotEntry). y.slot) is)) (RiseFrom-set 0 slots at x list lt up)

-- slots in order stand above the first
above_first : (low : ℕ) (slots : List SlotEntry) (k : ℕ) (d : SlotEntry) → RiseFrom low slots → k < length slots → low ≤ (get_or slots k d).slot
above_first low [] k d up lt = absurd (omega (arith, lt))
above_first low (one ∷ more) zero d up lt = up.0
above_first low (one ∷ more) (suc k) d up lt = let more_up : one.slot + 1 ≤ (get_or more k d).slot = above_first (one.slot + 1) more k d up.1 (omega arith) in omega (arith, up.0)

slots_rise : (low : ℕ) (slots : List SlotEntry) (i j : ℕ) (d : SlotEntry) → RiseFrom low slots → i ≤ j → j < length slots → (get_or slots i d).slot ≤ (get_or slots j d).slot
slots_rise low [] i j d up le lt = absurd (omega (arith, lt))
slots_rise low (one ∷ more) zero zero d up le lt = omega arith
slots_rise low (one ∷ more) zero (suc j) d up le lt = let above : one.slot + 1 ≤ (get_or more j d).slot = above_first (one.slot + 1) more j d up.1 (omega arith) in omega arith
slots_rise low (one ∷ more) (suc i) zero d up le lt = absurd (omega (arith, le))
slots_rise low (one ∷ more) (suc i) (suc j) d up le lt = slots_rise (one.slot + 1) more i j d up.1 (omega arith) (omega arith)

-- the lower slots stand before the others
pub slots_parted : (slot : ℕ) (slots : List SlotEntry) → RiseFrom 0 slots → IsPartitionedBy (λ (one : SlotEntry). nat_lt one.slot slot) slots
slots_parted slot slots up i j d le lt e =
    let rise : (get_or slots i d).slot ≤ (get_or slots j d).slot = slots_rise 0 slots i j d up le lt in
    grind (arith, nat_tests, rise, e)

-- the lower slots stand before the place, and higher ones from it on
record IsGapAt (slot : ℕ) (slots : List SlotEntry) (at : ℕ) : Type 0 where
  pub within : at ≤ length slots
  pub lower : (k : ℕ) (d : SlotEntry) → k < at → (get_or slots k d).slot < slot
  pub higher : (k : ℕ) (d : SlotEntry) → at ≤ k → k < length slots → slot < (get_or slots k d).slot

-- a search finds the gap where the slot is not there
gap_from : (slot : ℕ) (slots : List SlotEntry) (at : ℕ) → at ≤ length slots → NoSlot slot slots
    → IsPartitionPoint (λ (one : SlotEntry). nat_lt one.slot slot ≡ true) (λ (one : SlotEntry). nat_lt one.slot slot ≡ false) slots at → IsGapAt slot slots at
gap_from slot slots at within none point = record {
  within = within;
  lower = λ k d lt. ltb-true (get_or slots k d).slot slot (point.0 k d (omega arith) lt);
  higher = λ k d le lt.
      let least : slot ≤ (get_or slots k d).slot = ltb-false (get_or slots k d).slot slot (point.1 k d le lt) in
      let apart : ((get_or slots k d).slot == slot) ≡ false = none k d lt in
      grind (arith, nat_tests);
}

gap_tail : (slot : ℕ) (one : SlotEntry) (more : List SlotEntry) (at : ℕ) → IsGapAt slot (one ∷ more) (suc at) → IsGapAt slot more at
gap_tail slot one more at gap = record {
  within = omega (arith, gap.within);
  lower = λ k d lt. gap.lower (suc k) d (omega arith);
  higher = λ k d le lt. gap.higher (suc k) d (omega arith) (omega arith);
}

RiseFrom-insert : (low slot : ℕ) (list : SlotRuns) (slots : List SlotEntry) (at : ℕ) → low ≤ slot → IsGapAt slot slots at → RiseFrom low slots → RiseFrom low (insert slots at (record { slot = slot; list = list }))
RiseFrom-insert low slot list [] zero le gap up = (le, tt)
RiseFrom-insert low slot list [] (suc at) le gap up = absurd (omega (arith, gap.within))
RiseFrom-insert low slot list (one ∷ more) zero le gap up = let above : slot < one.slot = gap.higher 0 one (omega arith) (omega arith) in (le, (omega arith, up.1))
RiseFrom-insert low slot list (one ∷ more) (suc at) le gap up =
    let below : one.slot < slot = gap.lower 0 one (omega arith) in
    (up.0, RiseFrom-insert (one.slot + 1) slot list more at (omega arith) (gap_tail slot one more at gap) up.1)

-- the same where a search found the place
pub rise_with : (slot : ℕ) (list : SlotRuns) (items slots new : List SlotEntry) (at : ℕ) → items ≡ slots → RiseFrom 0 slots → NoSlot slot slots → at ≤ length items
    → IsPartitionPoint (λ (one : SlotEntry). nat_lt one.slot slot ≡ true) (λ (one : SlotEntry). nat_lt one.slot slot ≡ false) items at
    → new ≡ insert slots at (record { slot = slot; list = list }) → RiseFrom 0 new
rise_with slot list items slots new at same up none within point is =
    let gap : IsGapAt slot slots at = gap_from slot slots at (subst (λ (l : List SlotEntry). at ≤ length l) same within) none
    (subst (λ (l : List SlotEntry). IsPartitionPoint (λ (one : SlotEntry). nat_lt one.slot slot ≡ true) (λ (one : SlotEntry). nat_lt one.slot slot ≡ false) l at) same point) in
    subst (RiseFrom 0) (sym is) (RiseFrom-insert 0 slot list slots at (omega arith) gap up)

-- a slot that has no list gets one
pub slot_list-insert : (id : ℕ) (value : List ℕ) (slot : ℕ) (slots : List SlotEntry) (at : ℕ) (list : SlotRuns) → flat list ≡ put id value [] → NoSlot slot slots → (s : ℕ)
    → slot_list s (insert slots at (record { slot = slot; list = list })) ≡ (if slot == s then put id value (slot_list s slots) else slot_list s slots)
slot_list-insert id value slot slots zero list e h s =
    ap (λ (l : SlotValues). if slot == s then l else slot_list s slots) e
    ∙ by_test (slot == s) _ _ _ (λ pro.
    let same : slot ≡ s = grind (arith, nat_tests) in
    let empty : slot_list s slots ≡ [] = ap (λ n. slot_list n slots) (sym same) ∙ slot_list-none slot slots h in
    ap (λ b. if b then put id value [] else slot_list s slots) pro ∙ ap (put id value) (sym empty)) (λ con. ap (λ b. if b then put id value [] else slot_list s slots) con)
slot_list-insert id value slot [] (suc at) list e h s = ap (λ (l : SlotValues). if slot == s then l else []) e
slot_list-insert id value slot (one ∷ more) (suc at) list e h s =
    ap (λ (l : SlotValues). if one.slot == s then flat one.list else l) (slot_list-insert id value slot more at list e (λ k d lt. h (suc k) d (omega arith)) s)
    ∙ split (one.slot == s) (slot == s) (other_slot one.slot slot s (h 0 one (omega arith)))
  where
    split : (b c : Bool) → (b ≡ true → c ≡ false)
        → (if b then flat one.list else (if c then put id value (slot_list s more) else slot_list s more)) ≡ (if c then put id value (if b then flat one.list else slot_list s more) else (if b then flat one.list else slot_list s more))
    split true true once = absurd (true≢false (once refl))
    split true false once = refl
    split false true once = refl
    split false false once = refl

-- ---- the document out of each list

-- the list without the document, of the same slot
pub record IsCut (id : ℕ) (old new : SlotEntry) : Type 0 where
  pub same : new.slot ≡ old.slot
  pub list : flat new.list ≡ without id (flat old.list)

-- of the lists those before the place are without the document, and the others are as they were
pub record AreCutTo (id : ℕ) (old new : List SlotEntry) (at : ℕ) : Type 0 where
  pub sizes : length new ≡ length old
  pub cut : (k : ℕ) (d : SlotEntry) → k < at → k < length old → IsCut id (get_or old k d) (get_or new k d)
  pub whole : (k : ℕ) (d : SlotEntry) → at ≤ k → get_or new k d ≡ get_or old k d

pub cut_none : (id : ℕ) (slots : List SlotEntry) → AreCutTo id slots slots 0
cut_none id slots = record { sizes = refl; cut = λ k d lt within. absurd (omega (arith, lt)); whole = λ k d le. refl }

-- one list more
pub cut_on : (id at : ℕ) (old mid new : List SlotEntry) (x : SlotEntry) (list : SlotRuns) → AreCutTo id old mid at → at < length mid → x ≡ get_or mid at x
    → flat list ≡ without id (flat x.list) → new ≡ set mid at (record { slot = x.slot; list = list }) → AreCutTo id old new (at + 1)
cut_on id at old mid new x list so lt is cut new_is = record {
  sizes = ap length new_is ∙ length-set mid at (record { slot = x.slot; list = list }) ∙ so.sizes;
  cut = λ k d below within. elim (cases_eq k at) [
    | inl same ↦ subst (λ n. IsCut id (get_or old n d) (get_or new n d)) (sym same) (here d (omega (arith, so.sizes, lt)))
    | inr apart ↦ subst (IsCut id (get_or old k d)) (sym (kept k d apart)) (so.cut k d (omega (arith, below, apart)) within)
  ];
  whole = λ k d le. kept k d (λ same. omega (arith, le, same)) ∙ so.whole k d (omega (arith, le));
}
  where
    kept : (k : ℕ) (d : SlotEntry) → k ≢ at → get_or new k d ≡ get_or mid k d
    kept k d apart = ap (λ (l : List SlotEntry). get_or l k d) new_is ∙ get_or-set_other mid at k (record { slot = x.slot; list = list }) d apart

    here : (d : SlotEntry) → at < length old → IsCut id (get_or old at d) (get_or new at d)
    here d within =
        let was : x ≡ get_or old at d = is ∙ get_or_default mid at x d lt ∙ so.whole at d (omega arith) in
        let now : get_or new at d ≡ record { slot = x.slot; list = list } = ap (λ (l : List SlotEntry). get_or l at d) new_is ∙ get_or-set_same mid at (record { slot = x.slot; list = list }) d lt in
        subst (λ (y : SlotEntry). IsCut id y (get_or new at d)) was (subst (IsCut id x) (sym now) (record { same = refl; list = cut }))

-- all lists
cut_tail : (id at : ℕ) (one two : SlotEntry) (old new : List SlotEntry) → AreCutTo id (one ∷ old) (two ∷ new) (suc at) → AreCutTo id old new at
cut_tail id at one two old new so = record {
  sizes = omega (arith, so.sizes);
  cut = λ k d lt within. so.cut (suc k) d (omega arith) (omega arith);
  whole = λ k d le. so.whole (suc k) d (omega arith);
}

cut_all : (id at : ℕ) (old new : List SlotEntry) → AreCutTo id old new at → length old ≤ at → ClearsAll id old new
cut_all id at [] [] so le s = refl
cut_all id at [] (two ∷ new) so le s = absurd (omega (arith, so.sizes))
cut_all id at (one ∷ old) [] so le s = absurd (omega (arith, so.sizes))
cut_all id zero (one ∷ old) (two ∷ new) so le s = absurd (omega (arith, le))
cut_all id (suc at) (one ∷ old) (two ∷ new) so le s =
    let first : IsCut id one two = so.cut 0 one (omega arith) (omega arith) in
    ap (λ n. if n == s then flat two.list else slot_list s new) first.same
    ∙ by (one.slot == s) first.list (cut_all id at old new (cut_tail id at one two old new so) (omega arith) s)
  where
    by : (b : Bool) → flat two.list ≡ without id (flat one.list) → slot_list s new ≡ without id (slot_list s old)
        → (if b then flat two.list else slot_list s new) ≡ without id (if b then flat one.list else slot_list s old)
    by true here rest = here
    by false here rest = rest

rise_cut : (id at low : ℕ) (old new : List SlotEntry) → AreCutTo id old new at → length old ≤ at → RiseFrom low old → RiseFrom low new
rise_cut id at low [] [] so le up = tt
rise_cut id at low [] (two ∷ new) so le up = absurd (omega (arith, so.sizes))
rise_cut id at low (one ∷ old) [] so le up = absurd (omega (arith, so.sizes))
rise_cut id zero low (one ∷ old) (two ∷ new) so le up = absurd (omega (arith, le))
rise_cut id (suc at) low (one ∷ old) (two ∷ new) so le up =
    let same : two.slot ≡ one.slot = (so.cut 0 one (omega arith) (omega arith)).same in
    (omega (arith, same, up.0), subst (λ n. RiseFrom (n + 1) new) (sym same) (rise_cut id at (one.slot + 1) old new (cut_tail id at one two old new so) (omega arith) up.1))

-- of values by rising slot, the first slot does not come again
later_none : (slot : ℕ) (xs : List SlotValue) → ((k : ℕ) (d : SlotValue) → k < length xs → slot < (get_or xs k d).slot) → has_value slot xs ≡ false
later_none slot [] h = refl
later_none slot (x ∷ xs) h =
    let up : slot < x.slot = h 0 x (omega arith) in
    let here : (x.slot == slot) ≡ false = grind (arith, nat_tests) in
    ap (λ b. b || has_value slot xs) here ∙ later_none slot xs (λ k d lt. h (suc k) d (omega arith))

pub AreValues-tail : (x : SlotValue) (xs : List SlotValue) → AreValues (x ∷ xs) → AreValues xs
AreValues-tail x xs sound = record {
  rising = λ i j d below within. sound.rising (suc i) (suc j) d (omega arith) (omega arith);
  some = λ k d lt. sound.some (suc k) d (omega arith);
}

once_at : (x : SlotValue) (xs : List SlotValue) (s : ℕ) → AreValues (x ∷ xs) → (x.slot == s) ≡ true → has_value s xs ≡ false
once_at x xs s sound pro =
    let same : x.slot ≡ s = grind (arith, nat_tests) in
    ap (λ n. has_value n xs) (sym same) ∙ later_none x.slot xs (λ k d lt. sound.rising 0 (suc k) d (omega arith) (omega arith))

two_tests : (f g : SlotValues → SlotValues) (b c : Bool) (old mid : SlotValues)
    → (b ≡ true → c ≡ false) → mid ≡ (if b then f old else old)
    → (if c then g mid else mid) ≡ (if b || c then (if b then f old else g old) else old)
two_tests f g true true old mid once e = absurd (true≢false (once refl))
two_tests f g true false old mid once e = e
two_tests f g false true old mid once e = ap g e
two_tests f g false false old mid once e = e

choice_of : {A B : Type 0} (h : A → B) (b : Bool) (x y : A) → (if b then h x else h y) ≡ h (if b then x else y)
choice_of h true x y = refl
choice_of h false x y = refl

SetsAll-more : (id : ℕ) (x : SlotValue) (xs : List SlotValue) (old mid new : List SlotEntry) → AreValues (x ∷ xs) → Sets id x.slot x.value old mid → SetsAll id xs mid new → SetsAll id (x ∷ xs) old new
SetsAll-more id x xs old mid new sound one all s =
    all s ∙ two_tests (put id x.value) (put id (value_in s xs)) (x.slot == s) (has_value s xs) (slot_list s old) (slot_list s mid) (once_at x xs s sound) (one s)
    ∙ ap (λ (p : SlotValues). if has_value s (x ∷ xs) then p else slot_list s old) (choice_of (λ (v : List ℕ). put id v (slot_list s old)) (x.slot == s) x.value (value_in s xs))

-- these values are left to be given: from here on they do what all do from the start
pub record AreLeft (id : ℕ) (values : List SlotValue) (start : List SlotEntry) (left : List SlotValue) (slots : List SlotEntry) : Type 0 where
  pub sound : AreValues left
  pub given : (new : List SlotEntry) → SetsAll id left slots new → SetsAll id values start new
  pub rise : RiseFrom 0 slots

pub all_left : (id : ℕ) (values : List SlotValue) (start : List SlotEntry) → AreValues values → RiseFrom 0 start → AreLeft id values start values start
all_left id values start sound rise = record { sound = sound; given = λ new all. all; rise = rise }

-- one value less
pub one_given : (id : ℕ) (values : List SlotValue) (start : List SlotEntry) (left : List SlotValue) (x : SlotValue) (rest : List SlotValue) (slots next : List SlotEntry)
    → AreLeft id values start left slots → left ≡ x ∷ rest → Sets id x.slot x.value slots next → RiseFrom 0 next → AreLeft id values start rest next
one_given id values start left x rest slots next are is sets rise =
    let sound : AreValues (x ∷ rest) = subst AreValues is are.sound in
    record {
      sound = AreValues-tail x rest sound;
      given = λ new all. are.given new (subst (λ w. SetsAll id w slots new) (sym is) (SetsAll-more id x rest slots next new sound sets all));
      rise = rise;
    }

-- none is left
pub all_given : (id : ℕ) (values : List SlotValue) (start : List SlotEntry) (left : List SlotValue) (slots : List SlotEntry) → AreLeft id values start left slots → length left ≡ 0
    → SetsAll id values start slots
all_given id values start [] slots are none = are.given slots (λ slot. refl)
all_given id values start (x ∷ left) slots are none = absurd (omega (arith, none))

-- what the lists are behind a writing through their slice
module _ (id at n : ℕ) (now was items : List SlotEntry) (same : was ≡ items) (all : n ≡ length items) (so : AreCutTo id was now at) (end : length was ≤ at) where
  written_back : take n (now ++ drop (length now) items) ≡ now
  written_back =
      let count : length was ≡ length items = ap length same in
      take-append-le n now (drop (length now) items) (omega (arith, so.sizes)) ∙ take_all n now (omega (arith, so.sizes))

  pub clears_back : ClearsAll id items (take n (now ++ drop (length now) items))
  clears_back slot =
      ap (slot_list slot) written_back ∙ cut_all id at was now so end slot ∙ ap (λ (l : List SlotEntry). without id (slot_list slot l)) same

  pub rise_back : RiseFrom 0 items → RiseFrom 0 (take n (now ++ drop (length now) items))
  rise_back up = subst (RiseFrom 0) (sym written_back) (rise_cut id at 0 was now so end (subst (RiseFrom 0) (sym same) up))
