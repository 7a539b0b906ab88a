-- The values of a document out of the lists of the slots.
use Rattle.std.proofs.Common.{◌≡◌, ℕ, suc, ◌+◌, ◌<◌, ◌≤◌, ◌==◌, Bool, true, false, ◌||◌, if◌then◌else◌, List, [], ◌∷◌, length, get_or, Option, None, Some, option_map, inl, inr, refl, sym, ap, ◌∙◌, arith}
use mathlib.Core.Bool.{true≢false}
use Rattle.std.specs.List.{cons_option}
use Rattle.std.proofs.lemmas.Bool.{cases_order, eq-eqb, eqb-true}
use Rattle.std.proofs.lemmas.Bool.Decides.{nat_tests}
use Rattle.sk_base.specs.declared.doc_entry.SlotValue.{SlotValue}
use Rattle.sk_base.specs.Documents.{AreValues, has_value, value_in}
use Rattle.sk_sorted.specs.Entries.{put, found}
use Rattle.sk_sorted.proofs.EntryLaws.{found-put, found-put_other, found-without_other}
use Rattle.sk_sorted.specs.Runs.{flat}
use Rattle.sk_slots.specs.declared.slot_lists.SlotEntry.{SlotEntry}
use Rattle.sk_slots.specs.Slotted.{slot_list, SetsAll, ClearsAll, RiseFrom, values_at, KeepsOthers, IsNowhere}

-- the value in a slot, where there is one
abbrev value_under : ℕ → List SlotValue → Option (List ℕ)
value_under slot [] = None
value_under slot (v ∷ vs) = if v.slot == slot then Some v.value else value_under slot vs

-- the slots of values rise strictly, the first from `low` on
abbrev ValuesRise : ℕ → List SlotValue → Type 0
ValuesRise low [] = Unit {0}
ValuesRise low (v ∷ vs) = (low ≤ v.slot) × ValuesRise (v.slot + 1) vs

ValuesRise-lower : (low high : ℕ) (vs : List SlotValue) → low ≤ high → ValuesRise high vs → ValuesRise low vs
ValuesRise-lower low high [] le up = tt
ValuesRise-lower low high (v ∷ vs) le up = (omega (arith, le, up.0), up.1)

is_other : (m n : ℕ) → m < n → (n == m) ≡ false
is_other m n lt = grind (arith, nat_tests)

-- there is no value in a slot below the first
value_under-below : (low slot : ℕ) (vs : List SlotValue) → slot < low → ValuesRise low vs → value_under slot vs ≡ None
value_under-below low slot [] lt up = refl
value_under-below low slot (v ∷ vs) lt up =
    let apart : slot < v.slot = omega (arith, lt, up.0) in
    ap (λ b. if b then Some v.value else value_under slot vs) (is_other slot v.slot apart)
    ∙ value_under-below (v.slot + 1) slot vs (omega arith) up.1

value_under-here : (v : SlotValue) (vs : List SlotValue) (slot : ℕ) → v.slot ≡ slot → value_under slot (v ∷ vs) ≡ Some v.value
value_under-here v vs slot e = ap (λ b. if b then Some v.value else value_under slot vs) (eq-eqb v.slot slot e)

some_none : {w : List ℕ} → Some w ≡ None → ⊥
some_none e = cc

same_inner : {v w : List ℕ} → Some v ≡ Some w → v ≡ w
same_inner e = cc

-- values that are the same in each slot are the same
same_values : (low high : ℕ) (vs ws : List SlotValue) → ValuesRise low vs → ValuesRise high ws → ((slot : ℕ) → value_under slot vs ≡ value_under slot ws) → vs ≡ ws
same_values low high [] [] up down h = refl
same_values low high [] (w ∷ ws) up down h = absurd (some_none (sym (value_under-here w ws w.slot refl) ∙ sym (h w.slot)))
same_values low high (v ∷ vs) [] up down h = absurd (some_none (sym (value_under-here v vs v.slot refl) ∙ h v.slot))
same_values low high (v ∷ vs) (w ∷ ws) up down h = elim (cases_order v.slot w.slot) [
  | inl same ↦
      let value : v.value ≡ w.value = same_inner (sym (value_under-here v vs v.slot refl) ∙ h v.slot ∙ value_under-here w ws v.slot (sym same)) in
      let one : v ≡ w = λ i. record { slot = same i; value = value i } in
      λ i. one i ∷ same_values (v.slot + 1) (w.slot + 1) vs ws up.1 down.1 (more same) i
  | inr apart ↦ elim apart [
    | inl less ↦ absurd (some_none (sym (value_under-here v vs v.slot refl) ∙ h v.slot ∙ value_under-below w.slot v.slot (w ∷ ws) less (omega arith, down.1)))
    | inr greater ↦ absurd (some_none (sym (value_under-here w ws w.slot refl) ∙ sym (h w.slot) ∙ value_under-below v.slot w.slot (v ∷ vs) greater (omega arith, up.1)))
  ]
]
  where
    behind : (slot : ℕ) (b c : Bool) → (v.slot == slot) ≡ b → (w.slot == slot) ≡ c → b ≡ c
        → (if b then Some v.value else value_under slot vs) ≡ (if c then Some w.value else value_under slot ws) → value_under slot vs ≡ value_under slot ws
    behind slot true c here there e g =
        value_under-below (v.slot + 1) slot vs (omega (arith, eqb-true v.slot slot here)) up.1
        ∙ sym (value_under-below (w.slot + 1) slot ws (omega (arith, eqb-true w.slot slot (there ∙ sym e))) down.1)
    behind slot false true here there e g = absurd (true≢false (sym e))
    behind slot false false here there e g = g

    more : v.slot ≡ w.slot → (slot : ℕ) → value_under slot vs ≡ value_under slot ws
    more same slot = behind slot (v.slot == slot) (w.slot == slot) refl refl (ap (λ n. n == slot) same) (h slot)

-- the values that are read rise as the slots do
values_at-rise : (id low : ℕ) (slots : List SlotEntry) → RiseFrom low slots → ValuesRise low (values_at id slots)
values_at-rise id low [] up = tt
values_at-rise id low (one ∷ more) up = by (found id (flat one.list)) (values_at-rise id (one.slot + 1) more up.1)
  where
    by : (o : Option (List ℕ)) → ValuesRise (one.slot + 1) (values_at id more)
        → ValuesRise low (cons_option (option_map (λ (value : List ℕ). record { slot = one.slot; value = value }) o) (values_at id more))
    by None rest = ValuesRise-lower low (one.slot + 1) (values_at id more) (omega (arith, up.0)) rest
    by (Some value) rest = (up.0, rest)

-- the value that is read in a slot is the one in its list
value_under-values_at : (id low slot : ℕ) (slots : List SlotEntry) → RiseFrom low slots → value_under slot (values_at id slots) ≡ found id (slot_list slot slots)
value_under-values_at id low slot [] up = refl
value_under-values_at id low slot (one ∷ more) up = by (found id (flat one.list)) (one.slot == slot) refl refl (value_under-values_at id (one.slot + 1) slot more up.1)
  where
    by : (o : Option (List ℕ)) (b : Bool) → found id (flat one.list) ≡ o → (one.slot == slot) ≡ b → value_under slot (values_at id more) ≡ found id (slot_list slot more)
        → value_under slot (cons_option (option_map (λ (value : List ℕ). record { slot = one.slot; value = value }) o) (values_at id more)) ≡ found id (if b then flat one.list else slot_list slot more)
    by None true is here rest =
        value_under-below (one.slot + 1) slot (values_at id more) (omega (arith, eqb-true one.slot slot here)) (values_at-rise id (one.slot + 1) more up.1) ∙ sym is
    by None false is here rest = rest
    by (Some value) true is here rest = ap (λ c. if c then Some value else value_under slot (values_at id more)) here ∙ sym is
    by (Some value) false is here rest = ap (λ c. if c then Some value else value_under slot (values_at id more)) here ∙ rest

-- the values of a document by what is found in each slot
values_by : (id other : ℕ) (old new : List SlotEntry) → RiseFrom 0 old → RiseFrom 0 new → ((slot : ℕ) → found id (slot_list slot new) ≡ found other (slot_list slot old)) → values_at id new ≡ values_at other old
values_by id other old new up down h =
    same_values 0 0 (values_at id new) (values_at other old) (values_at-rise id 0 new down) (values_at-rise other 0 old up)
    (λ slot. value_under-values_at id 0 slot new down ∙ h slot ∙ sym (value_under-values_at other 0 slot old up))

-- values in order rise
rise_from : (low : ℕ) (vs : List SlotValue) → ((i j : ℕ) (d : SlotValue) → i < j → j < length vs → (get_or vs i d).slot < (get_or vs j d).slot) → ((k : ℕ) (d : SlotValue) → k < length vs → low ≤ (get_or vs k d).slot) → ValuesRise low vs
rise_from low [] up all = tt
rise_from low (v ∷ vs) up all =
    (all 0 v (omega arith), rise_from (v.slot + 1) vs (λ i j d below within. up (suc i) (suc j) d (omega arith) (omega arith)) (λ k d lt. let above : v.slot < (get_or vs k d).slot = up 0 (suc k) d (omega arith) (omega arith) in omega arith))

ValuesRise-from : (vs : List SlotValue) → AreValues vs → ValuesRise 0 vs
ValuesRise-from vs sound = rise_from 0 vs sound.rising (λ k d lt. omega arith)

-- a value by the two words of a document
value_under-is : (slot : ℕ) (vs : List SlotValue) → value_under slot vs ≡ (if has_value slot vs then Some (value_in slot vs) else None)
value_under-is slot [] = refl
value_under-is slot (v ∷ vs) = by (v.slot == slot) (value_under-is slot vs)
  where
    by : (b : Bool) → value_under slot vs ≡ (if has_value slot vs then Some (value_in slot vs) else None)
        → (if b then Some v.value else value_under slot vs) ≡ (if b || has_value slot vs then Some (if b then v.value else value_in slot vs) else None)
    by true rest = refl
    by false rest = rest

-- the document has the values that it is given
pub values_given : (id : ℕ) (values : List SlotValue) (old new : List SlotEntry) → RiseFrom 0 new → AreValues values → SetsAll id values old new → IsNowhere id old → values_at id new ≡ values
values_given id values old new down sound sets none =
    same_values 0 0 (values_at id new) values (values_at-rise id 0 new down) (ValuesRise-from values sound)
    (λ slot. value_under-values_at id 0 slot new down ∙ ap (found id) (sets slot) ∙ by slot (has_value slot values) ∙ sym (value_under-is slot values))
  where
    by : (slot : ℕ) (b : Bool) → found id (if b then put id (value_in slot values) (slot_list slot old) else slot_list slot old) ≡ (if b then Some (value_in slot values) else None)
    by slot true = found-put id (value_in slot values) (slot_list slot old)
    by slot false = none slot

-- each other document keeps its own
pub others_given : (id : ℕ) (values : List SlotValue) (old new : List SlotEntry) → RiseFrom 0 old → RiseFrom 0 new → SetsAll id values old new → KeepsOthers id old new
others_given id values old new up down sets other apart =
    values_by other other old new up down (λ slot. ap (found other) (sets slot) ∙ by slot (has_value slot values))
  where
    by : (slot : ℕ) (b : Bool) → found other (if b then put id (value_in slot values) (slot_list slot old) else slot_list slot old) ≡ found other (slot_list slot old)
    by slot true = found-put_other id other (value_in slot values) (slot_list slot old) (λ same. apart (sym same))
    by slot false = refl

pub others_cleared : (id : ℕ) (old new : List SlotEntry) → RiseFrom 0 old → RiseFrom 0 new → ClearsAll id old new → KeepsOthers id old new
others_cleared id old new up down clears other apart =
    values_by other other old new up down (λ slot. ap (found other) (clears slot) ∙ found-without_other id other (slot_list slot old) (λ same. apart (sym same)))
