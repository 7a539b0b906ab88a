use Rattle.std.proofs.Common.{◌≡◌, ◌++◌, drop, length, option_map}
use Rattle.serde_json.specs.View.{items_view}
use Rattle.sk_record.specs.SchemaFields.{fields_of}
use Rattle.sk_record.proofs.schema.fields_of.Given as goal

-- the fields so far, and those of the items that are left, are those of all; there are as many as items were read
abbrev pub invariant-items : goal.invariant-items
invariant-items l =
    (option_map (λ fields. l.fields.items ++ fields) (fields_of (items_view (drop l.item-index l.items))) ≡ fields_of (items_view l.items))
    × (length l.fields.items ≡ l.item-index)
