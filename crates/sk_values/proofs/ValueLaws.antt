-- Laws of the values of a slot.
use Rattle.std.proofs.Common.{◌≡◌, ℕ, zero, suc, ◌+◌, ◌<◌, ◌≤◌, ◌^◌, List, [], ◌∷◌, length, drop, get_or, true, false, is_some, Option, Some, None, refl, sym, ap, ◌∙◌, arith}
use Rattle.std.specs.Option.{unwrap_or}
use mathlib.Core.Bool.{true≢false}
use Rattle.std.proofs.lemmas.List.{drop_more}
use Rattle.sk_sorted.specs.Entries.{put, without, found, has}
use Rattle.sk_sorted.specs.Places.{id_at}
use Rattle.sk_sorted.proofs.EntryLaws.{AreSorted-put, AreSorted-without, AllByRecursion-put, AllByRecursion-without, AllByRecursion-found}
use Rattle.sk_sorted.proofs.PlaceLaws.{found_at, id_at-get_or}
use Rattle.sk_values.specs.SlotValues.{SlotValues, HaveValues, AreSlotValues, found_value, value_at_place}

-- no value is empty
abbrev has_bytes : ℕ × List ℕ → Type 0
has_bytes e = 1 ≤ length e.1

-- `put` of a value that is not empty leaves none empty
pub HaveValues-put : (id : ℕ) (value : List ℕ) (es : SlotValues) → 1 ≤ length value → HaveValues es → HaveValues (put id value es)
HaveValues-put id value es some values = AllByRecursion-put has_bytes id value es some values

-- `without` leaves no value empty
pub HaveValues-without : (id : ℕ) (es : SlotValues) → HaveValues es → HaveValues (without id es)
HaveValues-without id es values = AllByRecursion-without has_bytes id es values

-- `put` keeps a list sound
pub AreSlotValues-put : (id : ℕ) (value : List ℕ) (es : SlotValues) → 1 ≤ id → id < 2 ^ 32 → 1 ≤ length value → AreSlotValues es → AreSlotValues (put id value es)
AreSlotValues-put id value es begun small some sound = record { sorted = AreSorted-put id value es begun small sound.sorted; some = HaveValues-put id value es some sound.some }

-- `without` keeps a list sound
pub AreSlotValues-without : (id : ℕ) (es : SlotValues) → AreSlotValues es → AreSlotValues (without id es)
AreSlotValues-without id es sound = record { sorted = AreSorted-without id es sound.sorted; some = HaveValues-without id es sound.some }

-- an id that is not there has no value
pub found_value-none : (id : ℕ) (es : SlotValues) → has id es ≡ false → found_value id es ≡ []
found_value-none id es none = by (found id es) none
  where
    by : (o : Option (List ℕ)) → is_some o ≡ false → unwrap_or o [] ≡ []
    by None e = refl
    by (Some v) e = absurd (true≢false e)

-- an id that is there has a value that is not empty
pub found_value-some : (id : ℕ) (es : SlotValues) → HaveValues es → has id es ≡ true → 1 ≤ length (found_value id es)
found_value-some id es values there = by (found id es) refl there
  where
    by : (o : Option (List ℕ)) → found id es ≡ o → is_some o ≡ true → 1 ≤ length (unwrap_or o [])
    by None e h = absurd (true≢false (sym h))
    by (Some v) e h = AllByRecursion-found (λ (w : List ℕ). 1 ≤ length w) id v es values e

-- the value at a place is that of the entry there
pub value_at-get_or : (es : SlotValues) (i : ℕ) (d : ℕ × List ℕ) → i < length es → (get_or es i d).1 ≡ value_at_place es i
value_at-get_or [] i d lt = absurd (omega arith)
value_at-get_or (e ∷ es) zero d lt = refl
value_at-get_or (e ∷ es) (suc i) d lt = value_at-get_or es i d (omega arith)

-- it is that of the id there
pub found_value-id_at : (es : SlotValues) (i : ℕ) → AreSlotValues es → i < length es → found_value (id_at es i) es ≡ value_at_place es i
found_value-id_at es i sound lt =
    ap (λ (o : Option (List ℕ)). unwrap_or o []) (found_at 0 es (id_at es i) i (0, []) sound.sorted.rise (record { in_range = lt; has_id = refl })) ∙ value_at-get_or es i (0, []) lt

-- it is not empty
pub value_at-some : (es : SlotValues) (i : ℕ) → HaveValues es → i < length es → 1 ≤ length (value_at_place es i)
value_at-some [] i values lt = absurd (omega arith)
value_at-some (e ∷ es) zero values lt = values.0
value_at-some (e ∷ es) (suc i) values lt = value_at-some es i values.1 (omega arith)

-- from a place on stand the entry there and then the rest
pub drop-entry : (es : SlotValues) (i : ℕ) → i < length es → drop i es ≡ (id_at es i, value_at_place es i) ∷ drop (i + 1) es
drop-entry es i lt = drop_more es i (0, []) lt ∙ (λ k. (id_at-get_or es i (0, []) lt k, value_at-get_or es i (0, []) lt k) ∷ drop (i + 1) es)

-- what is read of a copy of the list at a place is what stands there
pub entry_read : (es copy : SlotValues) (i : ℕ) (e : ℕ × List ℕ) → copy ≡ es → i < length es → e ≡ get_or copy i e → record { id : e.0 ≡ id_at es i; value : e.1 ≡ value_at_place es i }
entry_read es copy i e same lt is =
    let read : e ≡ get_or es i e = is ∙ ap (λ (l : SlotValues). get_or l i e) same in record {
      id = ap (λ (w : ℕ × List ℕ). w.0) read ∙ id_at-get_or es i e lt;
      value = ap (λ (w : ℕ × List ℕ). w.1) read ∙ value_at-get_or es i e lt;
    }
