-- Lines, as the reader finds them.
use Rattle.std.proofs.Common.{◌≡◌, ℕ, true, false, if◌then◌else◌, List, Some, None, refl, ap, ◌∙◌}
use Rattle.std.specs.Str.{is_utf8, IsUtf8}
use Rattle.std.proofs.lemmas.Str.{is_utf8-from_IsUtf8, IsUtf8-from_is_utf8}
use Rattle.serde_json.specs.Data.{Data}
use Rattle.serde_json.specs.Read.{read}
use Rattle.sk_record.specs.Lines.{line_value}

pub value_read : (line : List ℕ) (d : Data) → IsUtf8 line → read line ≡ Some d → line_value line ≡ Some d
value_read line d utf8 e = ap (λ b. if b then read line else None) (is_utf8-from_IsUtf8 line utf8) ∙ e

pub no_value : (line : List ℕ) → (IsUtf8 line → read line ≡ None) → line_value line ≡ None
no_value line h =
    elim (is_utf8 line) as (λ b. is_utf8 line ≡ b → (if b then read line else None) ≡ None) [
      | true ↦ λ e. h (IsUtf8-from_is_utf8 line e)
      | false ↦ λ e. refl
    ] refl
