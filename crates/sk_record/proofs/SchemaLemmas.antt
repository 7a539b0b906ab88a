-- How many fields a schema line gives.
use Rattle.std.proofs.Common.{◌≡◌, ◌&&◌, suc, Bool, if◌then◌else◌, nat_le, List, [], ◌∷◌, length, None, refl, sym, ap, ◌∙◌}
use Rattle.serde_json.specs.View.{items_view}
use Rattle.serde_json.specs.declared.value.Value.{Value}
use Rattle.sk_json.specs.Values.{count_items}
use Rattle.sk_record.specs.SchemaFields.{fields_of, some_fields}

pub count_items-items_view : (vs : List Value) → count_items (items_view vs) ≡ length vs
count_items-items_view [] = refl
count_items-items_view (v ∷ vs) = ap suc (count_items-items_view vs)

pub some_fields-items_view : (vs : List Value) (few : Bool) → few ≡ (nat_le 1 (length vs) && nat_le (length vs) 64)
    → some_fields (items_view vs) ≡ (if few then fields_of (items_view vs) else None)
some_fields-items_view vs few e =
    ap (λ n. if nat_le 1 n && nat_le n 64 then fields_of (items_view vs) else None) (count_items-items_view vs)
    ∙ ap (λ b. if b then fields_of (items_view vs) else None) (sym e)
