-- What the values of a document are.
use Rattle.std.proofs.Common.{◌≡◌, ◌<◌, ◌+◌, ℕ, suc, Bool, true, false, not, List, [], ◌∷◌, ◌++◌, length, fold, cond, ◌==◌, ◌||◌, nat_lt, refl, sym, ap, ◌∙◌, true≢false, All, AllPairs, arith, bytes_eq}
use Rattle.std.proofs.lemmas.Bool.Decides.{nat_tests}
use Rattle.std.proofs.lemmas.List.Elements.{All-head, All-tail, All-cons, All-nil, All-weaker}
use Rattle.std.proofs.lemmas.List.Kept.{AllPairs-cons}
use Rattle.std.specs.Int.{to_be_bytes, w64}
use mathlib.Core.Logic.{◌⊎◌, inl, inr, ⊎_elim}
use Rattle.std.proofs.lemmas.List.Folds.{list_any-append}
use Rattle.std.specs.Prelude.{Option, Some}
use Rattle.std.specs.List.{list_all}
use Rattle.std.proofs.lemmas.Bool.{and_parts, eqb-true, false_from_ne_true, or_left, or_parts, or_right}
use Rattle.sk_base.specs.declared.doc_entry.SlotValue.{SlotValue}
use Rattle.sk_base.specs.declared.record.Record.{Record}
use Rattle.sk_base.specs.declared.record.Entry.{Entry}
use Rattle.sk_base.specs.declared.record.FieldValue.{FieldValue}
use Rattle.sk_base.specs.declared.schema.Field.{Field}
use Rattle.sk_base.specs.declared.schema.Schema.{Schema}
use Rattle.sk_base.specs.declared.schema.FieldKind.{FieldKind}
use Rattle.sk_base.specs.Documents.{has_value, AreValues}
use Rattle.sk_base.specs.Fields.{clash, kinds_clash, are_apart}
use Rattle.sk_model.specs.Documents.{value_at, slot_values_of, slot_values_from, with_value, values_of, document_of, keeps_slot, has_slot}
use Rattle.sk_base.specs.Terms.{is_given}

pub swap_or : (a b c : Bool) → (a || (b || c)) ≡ (b || (a || c))
swap_or true true c = refl
swap_or true false c = refl
swap_or false b c = refl

pub shift_or : (a b c : Bool) → (a || (b || c)) ≡ ((b || a) || c)
shift_or true true c = refl
shift_or true false c = refl
shift_or false true c = refl
shift_or false false c = refl

either : (a b : Bool) → (a || b) ≡ true → (a ≡ true) ⊎ (b ≡ true)
either true b h = inl refl
either false b h = inr h

has-put : (slot : ℕ) (one v : SlotValue) (more put : List SlotValue) (b : Bool) → has_value slot put ≡ ((v.slot == slot) || has_value slot more)
    → has_value slot (cond b (v ∷ one ∷ more) (one ∷ put)) ≡ ((v.slot == slot) || ((one.slot == slot) || has_value slot more))
has-put slot one v more put true h = refl
has-put slot one v more put false h = ap (λ b. (one.slot == slot) || b) h ∙ swap_or (one.slot == slot) (v.slot == slot) (has_value slot more)

-- a value that is put in its place is there, and no other with it
has-with_value : (slot : ℕ) (values : List SlotValue) (v : SlotValue) → has_value slot (with_value values v) ≡ ((v.slot == slot) || has_value slot values)
has-with_value slot [] v = refl
has-with_value slot (one ∷ more) v = has-put slot one v more (with_value more v) (nat_lt v.slot one.slot) (has-with_value slot more v)

-- what was put in its place, one after the other, is there
has-fold : (slot : ℕ) (values given : List SlotValue) → has_value slot (fold with_value values given) ≡ (has_value slot given || has_value slot values)
has-fold slot values [] = refl
has-fold slot values (v ∷ given) =
    has-fold slot (with_value values v) given ∙ ap (λ b. has_value slot given || b) (has-with_value slot values v)
    ∙ shift_or (has_value slot given) (v.slot == slot) (has_value slot values)

has_slot_given : (slot own : ℕ) (value : List ℕ) (b : Bool) → has_value slot (cond b (record { slot = own; value = value } ∷ []) []) ≡ true → (own == slot) ≡ true
has_slot_given slot own value true h = ⊎_elim (λ e. e) (λ e. absurd (true≢false (sym e))) (either (own == slot) false h)
has_slot_given slot own value false h = absurd (true≢false (sym h))

has_slot_of : (slot : ℕ) (kind : FieldKind) (value : Option FieldValue) → has_value slot (slot_values_of kind value) ≡ true → keeps_slot slot kind ≡ true
has_slot_of slot (FieldKind.Number own) (Some (FieldValue.Number n)) h = has_slot_given slot own (to_be_bytes w64 n) (is_given (to_be_bytes w64 n)) h
has_slot_of slot (FieldKind.Word own) (Some (FieldValue.Word text)) h = has_slot_given slot own text (is_given text) h
has_slot_of slot _ _ h = absurd (true≢false (sym h))

-- what the fields give stands in slots of theirs
has_slot_from : (slot place : ℕ) (fields : List Field) (given : List Entry) → has_value slot (slot_values_from place fields given) ≡ true → has_slot slot fields ≡ true
has_slot_from slot place [] given h = absurd (true≢false (sym h))
has_slot_from slot place (field ∷ fields) given h =
    let own = slot_values_of field.kind (value_at place given) in
    let others = slot_values_from (place + 1) fields given in
    ⊎_elim
    (λ e. or_left (keeps_slot slot field.kind) (has_slot slot fields) (has_slot_of slot field.kind (value_at place given) e))
    (λ e. or_right (keeps_slot slot field.kind) (has_slot slot fields) (has_slot_from slot (place + 1) fields given e))
    (either (has_value slot own) (has_value slot others) (sym (list_any-append (λ (one : SlotValue). one.slot == slot) own others) ∙ h))

or_false : (b : Bool) → (b || false) ≡ true → b ≡ true
or_false true h = refl
or_false false h = h

-- a value of a document stands in a slot of its schema
pub slots_are_kept : (slot : ℕ) (schema : Schema) (given : Record) → has_value slot (document_of schema given).values ≡ true → has_slot slot schema.fields ≡ true
slots_are_kept slot schema given h =
    has_slot_from slot 0 schema.fields given.values
    (or_false (has_value slot (slot_values_from 0 schema.fields given.values)) (sym (has-fold slot [] (slot_values_from 0 schema.fields given.values)) ∙ h))

-- ---- the order of the values

-- the slots rise
abbrev Rising : List SlotValue → Type 0
Rising values = AllPairs (λ v w. v.slot < w.slot) values

rising_head : (one : SlotValue) (more : List SlotValue) → Rising (one ∷ more) → All (λ w. one.slot < w.slot) more
rising_head one more h k d lt = h 0 (suc k) d (omega arith) (omega arith)

rising_tail : (one : SlotValue) (more : List SlotValue) → Rising (one ∷ more) → Rising more
rising_tail one more h i j d lt within = h (suc i) (suc j) d (omega arith) (omega arith)

rising_nil : Rising []
rising_nil i j d lt within = absurd (omega arith)

all_put : (P : SlotValue → Type 0) (one v : SlotValue) (more put : List SlotValue) (b : Bool) → P v → All P (one ∷ more) → All P put → All P (cond b (v ∷ one ∷ more) (one ∷ put))
all_put P one v more put true own all rest = All-cons P v (one ∷ more) own all
all_put P one v more put false own all rest = All-cons P one put (All-head P one more all) rest

-- what holds of a value and of all others holds of all once it is put in its place
all-with_value : (P : SlotValue → Type 0) (values : List SlotValue) (v : SlotValue) → P v → All P values → All P (with_value values v)
all-with_value P [] v own all = All-cons P v [] own all
all-with_value P (one ∷ more) v own all = all_put P one v more (with_value more v) (nat_lt v.slot one.slot) own all (all-with_value P more v own (All-tail P one more all))

rising_put : (one v : SlotValue) (more : List SlotValue) (b : Bool) → nat_lt v.slot one.slot ≡ b → (one.slot == v.slot) ≡ false → Rising (one ∷ more) → Rising (with_value more v)
    → Rising (cond b (v ∷ one ∷ more) (one ∷ with_value more v))
rising_put one v more true less other rising rest =
    let below : v.slot < one.slot = grind (arith, nat_tests) in
    AllPairs-cons (λ v w. v.slot < w.slot) v (one ∷ more)
    (All-cons (λ w. v.slot < w.slot) one more below (All-weaker (λ w. one.slot < w.slot) (λ w. v.slot < w.slot) (λ w h. omega arith) more (rising_head one more rising)))
    rising
rising_put one v more false less other rising rest =
    let above : one.slot < v.slot = grind (arith, nat_tests) in
    AllPairs-cons (λ v w. v.slot < w.slot) one (with_value more v) (all-with_value (λ w. one.slot < w.slot) more v above (rising_head one more rising)) rest

rising-with_value : (values : List SlotValue) (v : SlotValue) → Rising values → has_value v.slot values ≡ false → Rising (with_value values v)
rising-with_value [] v rising fresh = AllPairs-cons (λ v w. v.slot < w.slot) v [] (All-nil (λ w. v.slot < w.slot)) rising
rising-with_value (one ∷ more) v rising fresh =
    let apart = or_parts (one.slot == v.slot) (has_value v.slot more) fresh in
    rising_put one v more (nat_lt v.slot one.slot) refl apart.0 rising (rising-with_value more v (rising_tail one more rising) apart.1)

-- no slot stands twice
abbrev Once : List SlotValue → Type 0
Once [] = Unit {0}
Once (v ∷ vs) = (has_value v.slot vs ≡ false) × Once vs

-- no slot stands in and_parts
abbrev Apart : List SlotValue → List SlotValue → Type 0
Apart values given = (slot : ℕ) → has_value slot given ≡ true → has_value slot values ≡ false

own_slot : (slot : ℕ) → (slot == slot) ≡ true
own_slot slot = grind (arith, nat_tests)

apart_step : (values given : List SlotValue) (v : SlotValue) → has_value v.slot given ≡ false → Apart values (v ∷ given) → Apart (with_value values v) given
apart_step values given v fresh apart slot there =
    has-with_value slot values v
    ∙ false_from_ne_true ((v.slot == slot) || has_value slot values) (λ h.
    ⊎_elim
    (λ e. true≢false (sym there ∙ ap (λ s. has_value s given) (sym (eqb-true v.slot slot e)) ∙ fresh))
    (λ e. true≢false (sym e ∙ apart slot (or_right (v.slot == slot) (has_value slot given) there)))
    (either (v.slot == slot) (has_value slot values) h))

rising-fold : (values given : List SlotValue) → Rising values → Once given → Apart values given → Rising (fold with_value values given)
rising-fold values [] rising once apart = rising
rising-fold values (v ∷ given) rising once apart =
    rising-fold (with_value values v) given
    (rising-with_value values v rising (apart v.slot (or_left (v.slot == v.slot) (has_value v.slot given) (own_slot v.slot))))
    once.1 (apart_step values given v once.0 apart)

all-fold : (P : SlotValue → Type 0) (values given : List SlotValue) → All P values → All P given → All P (fold with_value values given)
all-fold P values [] all own = all
all-fold P values (v ∷ given) all own = all-fold P (with_value values v) given (all-with_value P values v (All-head P v given own) all) (All-tail P v given own)

slots_clash : (slot : ℕ) (f g : FieldKind) → keeps_slot slot f ≡ true → keeps_slot slot g ≡ true → kinds_clash f g ≡ true
slots_clash slot (FieldKind.Number i) (FieldKind.Number j) h k = grind (arith, nat_tests)
slots_clash slot (FieldKind.Number i) (FieldKind.Word j) h k = grind (arith, nat_tests)
slots_clash slot (FieldKind.Word i) (FieldKind.Number j) h k = grind (arith, nat_tests)
slots_clash slot (FieldKind.Word i) (FieldKind.Word j) h k = grind (arith, nat_tests)
slots_clash slot (FieldKind.Text p s) g h k = absurd (true≢false (sym h))
slots_clash slot (FieldKind.Filter p) g h k = absurd (true≢false (sym h))
slots_clash slot f (FieldKind.Text p s) h k = absurd (true≢false (sym k))
slots_clash slot f (FieldKind.Filter p) h k = absurd (true≢false (sym k))

not_true : (b : Bool) → b ≡ true → not b ≡ true → ⊥
not_true true h n = true≢false (sym n)
not_true false h n = true≢false (sym h)

-- no field behind one that keeps a slot keeps it
slot_is_free : (slot : ℕ) (field : Field) (rest : List Field) → keeps_slot slot field.kind ≡ true → list_all (λ other. not (clash field other)) rest ≡ true → has_slot slot rest ≡ true → ⊥
slot_is_free slot field [] keeps apart h = true≢false (sym h)
slot_is_free slot field (other ∷ rest) keeps apart h =
    let tests = and_parts (not (clash field other)) (list_all (λ other. not (clash field other)) rest) apart in
    ⊎_elim
    (λ e. not_true (clash field other) (or_right (bytes_eq field.name other.name) (kinds_clash field.kind other.kind) (slots_clash slot field.kind other.kind keeps e)) tests.0)
    (λ e. slot_is_free slot field rest keeps tests.1 e)
    (either (keeps_slot slot other.kind) (has_slot slot rest) h)

once_given : (slot : ℕ) (value : List ℕ) (more : List SlotValue) (b : Bool) → has_value slot more ≡ false → Once more → Once (cond b (record { slot = slot; value = value } ∷ []) [] ++ more)
once_given slot value more true fresh once = (fresh, once)
once_given slot value more false fresh once = once

once_of : (kind : FieldKind) (value : Option FieldValue) (more : List SlotValue) → ((slot : ℕ) → keeps_slot slot kind ≡ true → has_value slot more ≡ false) → Once more
    → Once (slot_values_of kind value ++ more)
once_of (FieldKind.Number slot) (Some (FieldValue.Number n)) more free once = once_given slot (to_be_bytes w64 n) more (is_given (to_be_bytes w64 n)) (free slot (own_slot slot)) once
once_of (FieldKind.Word slot) (Some (FieldValue.Word text)) more free once = once_given slot text more (is_given text) (free slot (own_slot slot)) once
once_of _ _ more free once = once

once_from : (place : ℕ) (fields : List Field) (given : List Entry) → are_apart fields ≡ true → Once (slot_values_from place fields given)
once_from place [] given apart = tt
once_from place (field ∷ fields) given apart =
    let tests = and_parts (list_all (λ other. not (clash field other)) fields) (are_apart fields) apart in
    let more = slot_values_from (place + 1) fields given in
    once_of field.kind (value_at place given) more
    (λ slot keeps. false_from_ne_true (has_value slot more) (λ h. slot_is_free slot field fields keeps tests.0 (has_slot_from slot (place + 1) fields given h)))
    (once_from (place + 1) fields given tests.1)

-- the value has a byte
abbrev IsGiven : SlotValue → Type 0
IsGiven v = 0 < length v.value

given_some : (slot : ℕ) (value : List ℕ) (more : List SlotValue) (b : Bool) → nat_lt 0 (length value) ≡ b → All IsGiven more → All IsGiven (cond b (record { slot = slot; value = value } ∷ []) [] ++ more)
given_some slot value more true h all =
    let some : 0 < length value = grind (arith, nat_tests) in
    All-cons IsGiven (record { slot = slot; value = value }) more some all
given_some slot value more false h all = all

some_of : (kind : FieldKind) (value : Option FieldValue) (more : List SlotValue) → All IsGiven more → All IsGiven (slot_values_of kind value ++ more)
some_of (FieldKind.Number slot) (Some (FieldValue.Number n)) more all = given_some slot (to_be_bytes w64 n) more (is_given (to_be_bytes w64 n)) refl all
some_of (FieldKind.Word slot) (Some (FieldValue.Word text)) more all = given_some slot text more (is_given text) refl all
some_of _ _ more all = all

some_from : (place : ℕ) (fields : List Field) (given : List Entry) → All IsGiven (slot_values_from place fields given)
some_from place [] given = All-nil IsGiven
some_from place (field ∷ fields) given = some_of field.kind (value_at place given) (slot_values_from (place + 1) fields given) (some_from (place + 1) fields given)

-- the values of a document stand by rising slot, and none is empty
pub values_rise : (fields : List Field) (given : List Entry) → are_apart fields ≡ true → AreValues (values_of (slot_values_from 0 fields given))
values_rise fields given apart = record {
  rising = rising-fold [] (slot_values_from 0 fields given) rising_nil (once_from 0 fields given apart) (λ slot h. refl);
  some = all-fold IsGiven [] (slot_values_from 0 fields given) (All-nil IsGiven) (some_from 0 fields given);
}
