-- A line with one member alone.
use Rattle.std.proofs.Common.{◌≡◌, ◌≢◌, false, List, [], ◌∷◌, ℕ, length, Some, String, Global, string_bytes, bytes_eq, refl, sym, ap, arith}
use Rattle.std.specs.List.{slice_get}
use Rattle.serde_json.specs.View.{members_view}
use Rattle.serde_json.specs.declared.value.Value.{Value}
use Rattle.sk_record.proofs.Choices.{some_is}
use Rattle.sk_record.specs.Alone.{is_only}

abbrev Entry : Type 0
Entry = String Global × Value

-- The one member is the first.
pub only_first : (name : List ℕ) (es : List Entry) (k : String Global) (v : Value) → length es ≡ 1 → slice_get es 0 ≡ Some (k, v)
    → bytes_eq (string_bytes k) name ≡ is_only name (members_view es)
only_first name [] k v one first = absurd (omega arith)
only_first name (e ∷ []) k v one first = ap (λ (p : Entry). bytes_eq (string_bytes p.0) name) (sym (some_is e (k, v) first))
only_first name (e ∷ f ∷ es) k v one first = absurd (omega arith)

-- There are none, or several.
pub not_one : (name : List ℕ) (es : List Entry) → (length es ≢ 1) → false ≡ is_only name (members_view es)
not_one name [] h = refl
not_one name (e ∷ []) h = absurd (h refl)
not_one name (e ∷ f ∷ es) h = refl
