-- What the lists are after an edit of the documents.
use Rattle.std.proofs.Common.{◌≡◌, ◌≢◌, ℕ, ◌==◌, Bool, true, false, ◌||◌, if◌then◌else◌, List, [], ◌∷◌, Option, None, Some, inl, inr, refl, sym, ap, ◌∙◌, arith}
use mathlib.Core.Bool.{true≢false}
use Rattle.std.specs.List.{filter_map, cons_option}
use Rattle.std.specs.Option.{unwrap_or}
use Rattle.std.proofs.lemmas.Bool.{cases_eq}
use Rattle.sk_sorted.specs.Entries.{RiseAbove, put, without, found}
use Rattle.sk_sorted.proofs.EntryLaws.{found-here, found-other, found-below, without-here, without-other, without-absent}
use Rattle.sk_sorted.proofs.PickedLaws.{with_picked, without_picked, picked-put, picked-without}
use Rattle.sk_base.specs.declared.doc_entry.SlotValue.{SlotValue}
use Rattle.sk_base.specs.Documents.{has_term, wdf_of, has_value, value_in}
use Rattle.sk_base.specs.Numbers.{Docs}
use Rattle.sk_sorted.specs.Runs.{flat}
use Rattle.sk_chunks.specs.Postings.{Postings}
use Rattle.sk_lists.specs.Lists.{Runs}
use Rattle.sk_values.specs.SlotValues.{SlotValues, found_value}
use Rattle.sk_model.specs.Documents.{Document}
use Rattle.sk_model.specs.Edits.{document_at, put_document, without_id}
use Rattle.sk_slots.specs.declared.slot_lists.SlotEntry.{SlotEntry}
use Rattle.sk_slots.specs.Slotted.{SetsAll, ClearsAll, IsNowhere}
use Rattle.sk_terms.specs.Listed.{Listed, PutsAll, TakesOutAll}
use Rattle.sk_index.specs.Indexed.{posting_in, postings, all_postings, valued_in, slot_values, slot_value}
use Rattle.sk_index.specs.Stands.{AreSlotsOf, ListsStand}

-- an entry has the id of its document
posting_named : (t : List ℕ) (one : ℕ × Document) (p : ℕ × ℕ) → posting_in t one ≡ Some p → p.0 ≡ one.0
posting_named t one p e = by (has_term t one.1.terms) e
  where
    by : (b : Bool) → (if b then Some (one.0, wdf_of t one.1.terms) else None) ≡ Some p → p.0 ≡ one.0
    by true e = cc
    by false e = cc

valued_named : (slot : ℕ) (one : ℕ × Document) (v : ℕ × List ℕ) → valued_in slot one ≡ Some v → v.0 ≡ one.0
valued_named slot one v e = by (has_value slot one.1.values) e
  where
    by : (b : Bool) → (if b then Some (one.0, value_in slot one.1.values) else None) ≡ Some v → v.0 ≡ one.0
    by true e = cc
    by false e = cc

-- a choice of the entry is a choice of the lists
chosen : {Y : Type 0} (b : Bool) (id : ℕ) (y : Y) (es : List (ℕ × Y)) → with_picked (if b then Some (id, y) else None) es ≡ (if b then put id y es else es)
chosen true id y es = refl
chosen false id y es = refl

unchosen : {Y : Type 0} (b : Bool) (e : ℕ × Y) (id : ℕ) (es : List (ℕ × Y)) → without_picked (if b then Some e else None) id es ≡ (if b then without id es else es)
unchosen true e id es = refl
unchosen false e id es = refl

pub postings-put : (t : List ℕ) (id : ℕ) (d : Document) (docs : Docs) → RiseAbove 0 docs → document_at id docs ≡ None
    → postings t (put_document id d docs) ≡ (if has_term t d.terms then put id (wdf_of t d.terms) (postings t docs) else postings t docs)
postings-put t id d docs up none = picked-put (posting_in t) (posting_named t) 0 id d docs up none ∙ chosen (has_term t d.terms) id (wdf_of t d.terms) (postings t docs)

pub postings-without : (t : List ℕ) (id : ℕ) (d : Document) (docs : Docs) → document_at id docs ≡ Some d
    → postings t (without_id id docs) ≡ (if has_term t d.terms then without id (postings t docs) else postings t docs)
postings-without t id d docs some = picked-without (posting_in t) (posting_named t) id d docs some ∙ unchosen (has_term t d.terms) (id, wdf_of t d.terms) id (postings t docs)

pub slot_values-put : (slot id : ℕ) (d : Document) (docs : Docs) → RiseAbove 0 docs → document_at id docs ≡ None
    → slot_values slot (put_document id d docs) ≡ (if has_value slot d.values then put id (value_in slot d.values) (slot_values slot docs) else slot_values slot docs)
slot_values-put slot id d docs up none = picked-put (valued_in slot) (valued_named slot) 0 id d docs up none ∙ chosen (has_value slot d.values) id (value_in slot d.values) (slot_values slot docs)

-- a document that is not there is in no list
some_none : {d : Document} → Some d ≡ None → ⊥
some_none e = cc

slot_values-absent : (slot id : ℕ) (docs : Docs) → document_at id docs ≡ None → found id (slot_values slot docs) ≡ None
slot_values-absent slot id [] none = refl
slot_values-absent slot id (one ∷ more) none = elim (cases_eq one.0 id) [
  | inl same ↦ absurd (some_none (sym (found-here id one more same) ∙ none))
  | inr apart ↦ by apart (has_value slot one.1.values) ∙ slot_values-absent slot id more (sym (found-other id one more apart) ∙ none)
]
  where
    by : one.0 ≢ id → (b : Bool) → found id (cons_option (if b then Some (one.0, value_in slot one.1.values) else None) (slot_values slot more)) ≡ found id (slot_values slot more)
    by apart true = found-other id (one.0, value_in slot one.1.values) (slot_values slot more) apart
    by apart false = refl

pub nowhere_from : (id : ℕ) (docs : Docs) (slots : List SlotEntry) → AreSlotsOf docs slots → document_at id docs ≡ None → IsNowhere id slots
nowhere_from id docs slots values none slot = ap (found id) (values slot) ∙ slot_values-absent slot id docs none

pub slot_values-without : (low slot id : ℕ) (docs : Docs) → RiseAbove low docs → slot_values slot (without_id id docs) ≡ without id (slot_values slot docs)
slot_values-without low slot id [] up = refl
slot_values-without low slot id (one ∷ more) up = elim (cases_eq one.0 id) [
  | inl same ↦ ap (slot_values slot) (without-here id one more same) ∙ here same (has_value slot one.1.values)
  | inr apart ↦ ap (slot_values slot) (without-other id one more apart) ∙ ap (cons_option (valued_in slot one)) (slot_values-without one.0 slot id more up.1) ∙ behind apart (has_value slot one.1.values)
]
  where
    here : one.0 ≡ id → (b : Bool) → slot_values slot more ≡ without id (cons_option (if b then Some (one.0, value_in slot one.1.values) else None) (slot_values slot more))
    here same true = sym (without-here id (one.0, value_in slot one.1.values) (slot_values slot more) same)
    here same false = sym (without-absent id (slot_values slot more) (slot_values-absent slot id more (found-below one.0 id more (omega (arith, same)) up.1)))

    behind : one.0 ≢ id → (b : Bool) → cons_option (if b then Some (one.0, value_in slot one.1.values) else None) (without id (slot_values slot more))
        ≡ without id (cons_option (if b then Some (one.0, value_in slot one.1.values) else None) (slot_values slot more))
    behind apart true = sym (without-other id (one.0, value_in slot one.1.values) (slot_values slot more) apart)
    behind apart false = refl

-- each document in the list of all
abbrev always : ℕ × Document → Option (ℕ × ℕ)
always one = Some (one.0, 0)

always_named : (one : ℕ × Document) (p : ℕ × ℕ) → always one ≡ Some p → p.0 ≡ one.0
always_named one p e = cc

all_made : (docs : Docs) → all_postings docs ≡ filter_map always docs
all_made [] = refl
all_made (one ∷ more) = ap (λ (ps : Postings). (one.0, 0) ∷ ps) (all_made more)

pub all_postings-put : (id : ℕ) (d : Document) (docs : Docs) → RiseAbove 0 docs → document_at id docs ≡ None → all_postings (put_document id d docs) ≡ put id 0 (all_postings docs)
all_postings-put id d docs up none = all_made (put_document id d docs) ∙ picked-put always always_named 0 id d docs up none ∙ ap (put id 0) (sym (all_made docs))

pub all_postings-without : (id : ℕ) (d : Document) (docs : Docs) → document_at id docs ≡ Some d → all_postings (without_id id docs) ≡ without id (all_postings docs)
all_postings-without id d docs some = all_made (without_id id docs) ∙ picked-without always always_named id d docs some ∙ ap (without id) (sym (all_made docs))

-- all lists with one document more
pub Stands-put : (docs : Docs) (all all2 : Runs) (listed listed2 : Listed) (slots slots2 : List SlotEntry) (id : ℕ) (d : Document)
    → flat all2 ≡ put id 0 (flat all) → PutsAll id d.terms listed listed2 → SetsAll id d.values slots slots2
    → RiseAbove 0 docs → document_at id docs ≡ None → ListsStand all listed slots docs → ListsStand all2 listed2 slots2 (put_document id d docs)
Stands-put docs all all2 listed listed2 slots slots2 id d a l v up none old = record {
  all_is = a ∙ ap (put id 0) old.all_is ∙ sym (all_postings-put id d docs up none);
  lists = λ t. l t ∙ ap (λ (ps : Postings). if has_term t d.terms then put id (wdf_of t d.terms) ps else ps) (old.lists t) ∙ sym (postings-put t id d docs up none);
  values = λ slot. v slot ∙ ap (λ (vs : SlotValues). if has_value slot d.values then put id (value_in slot d.values) vs else vs) (old.values slot) ∙ sym (slot_values-put slot id d docs up none);
}

-- all lists without a document
pub Stands-without : (docs : Docs) (all all2 : Runs) (listed listed2 : Listed) (slots slots2 : List SlotEntry) (id : ℕ) (d : Document)
    → flat all2 ≡ without id (flat all) → TakesOutAll id d.terms listed listed2 → ClearsAll id slots slots2
    → RiseAbove 0 docs → document_at id docs ≡ Some d → ListsStand all listed slots docs → ListsStand all2 listed2 slots2 (without_id id docs)
Stands-without docs all all2 listed listed2 slots slots2 id d a l v up some old = record {
  all_is = a ∙ ap (without id) old.all_is ∙ sym (all_postings-without id d docs some);
  lists = λ t. l t ∙ ap (λ (ps : Postings). if has_term t d.terms then without id ps else ps) (old.lists t) ∙ sym (postings-without t id d docs some);
  values = λ slot. v slot ∙ ap (without id) (old.values slot) ∙ sym (slot_values-without 0 slot id docs up);
}

-- a slot that no value has is empty
value_in-none : (slot : ℕ) (vs : List SlotValue) → has_value slot vs ≡ false → value_in slot vs ≡ []
value_in-none slot [] h = refl
value_in-none slot (v ∷ vs) h = by (v.slot == slot) refl (value_in-none slot vs)
  where
    by : (b : Bool) → (v.slot == slot) ≡ b → (has_value slot vs ≡ false → value_in slot vs ≡ []) → (if b then v.value else value_in slot vs) ≡ []
    by true e rest = absurd (true≢false (sym (ap (λ c. c || has_value slot vs) e) ∙ h))
    by false e rest = rest (sym (ap (λ c. c || has_value slot vs) e) ∙ h)

-- the value that is found in the list of a slot is the document's
pub found_value-slot_values : (low slot id : ℕ) (docs : Docs) → RiseAbove low docs → found_value id (slot_values slot docs) ≡ slot_value slot (document_at id docs)
found_value-slot_values low slot id [] up = refl
found_value-slot_values low slot id (one ∷ more) up = elim (cases_eq one.0 id) [
  | inl same ↦
      here same (has_value slot one.1.values) refl (found_value-slot_values one.0 slot id more up.1 ∙ ap (slot_value slot) (found-below one.0 id more (omega (arith, same)) up.1))
      ∙ ap (slot_value slot) (sym (found-here id one more same))
  | inr apart ↦ other apart (has_value slot one.1.values) ∙ found_value-slot_values one.0 slot id more up.1 ∙ ap (slot_value slot) (sym (found-other id one more apart))
]
  where
    here : one.0 ≡ id → (b : Bool) → has_value slot one.1.values ≡ b → found_value id (slot_values slot more) ≡ []
        → found_value id (cons_option (if b then Some (one.0, value_in slot one.1.values) else None) (slot_values slot more)) ≡ value_in slot one.1.values
    here same true e rest = ap (λ (o : Option (List ℕ)). unwrap_or o []) (found-here id (one.0, value_in slot one.1.values) (slot_values slot more) same)
    here same false e rest = rest ∙ sym (value_in-none slot one.1.values e)

    other : one.0 ≢ id → (b : Bool) → found_value id (cons_option (if b then Some (one.0, value_in slot one.1.values) else None) (slot_values slot more)) ≡ found_value id (slot_values slot more)
    other apart true = ap (λ (o : Option (List ℕ)). unwrap_or o []) (found-other id (one.0, value_in slot one.1.values) (slot_values slot more) apart)
    other apart false = refl
